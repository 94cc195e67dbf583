-- An object that comes and goes leaves the room that it found.
use Rattle.symres_table.proofs.Common.{All, All-head, All-tail, Bool, HasList, List, NamedSymbol, Option, State, [], ap}
use Rattle.symres_table.proofs.Common.{arith, cases_eq, cases_lt, cond, drop, entries_of, eq-eqb, eqb, false, filter}
use Rattle.symres_table.proofs.Common.{filter-append, filter_passes, get_or, get_or_append_left, get_or_past}
use Rattle.symres_table.proofs.Common.{get_or_push, insert, length, length-append, length-drop, length-remove}
use Rattle.symres_table.proofs.Common.{length-take, not, refl, remove, slot, subst, suc, sym, take, take-append-drop}
use Rattle.symres_table.proofs.Common.{true, ℕ, ⊎_elim, ◌++◌, ◌+◌, ◌-◌, ◌<◌, ◌∙◌, ◌∷◌, ◌≡◌, ◌≤◌}
use Rattle.std.proofs.lemmas.List.Edits.{get_or-insert_above, get_or-insert_at, get_or-insert_below}
use Rattle.std.proofs.lemmas.List.Edits.{get_or-remove_above, get_or-remove_below}
use Rattle.symres_table.specs.Changes.{Enters, Withdraws}
use Rattle.symres_table.specs.State.{MayEnter, without}

abbrev Table : Type 0
Table = ℕ × List NamedSymbol

-- ---- the objects

is_other : ℕ → Table → Bool
is_other key t = not (eqb t.0 key)

filter_all : {X : Type 0} (p : X → Bool) (xs : List X) → All (λ (x : X). p x ≡ true) xs → filter p xs ≡ xs
filter_all p [] h = refl
filter_all p (x ∷ xs) h =
    ap (λ b. cond b (x ∷ filter p xs) (filter p xs)) (All-head (λ x. p x ≡ true) x xs h)
    ∙ ap (λ l. x ∷ l) (filter_all p xs (All-tail (λ x. p x ≡ true) x xs h))

others_only : (key : ℕ) (ts : List Table) → All (λ (t : Table). not (eqb t.0 key) ≡ true) (without key ts)
others_only key ts = filter_passes (λ (t : Table). not (eqb t.0 key)) ts

-- the objects without one that was put in
pub without_put : (key at : ℕ) (ss : List NamedSymbol) (ts : List Table)
    → All (λ (t : Table). not (eqb t.0 key) ≡ true) ts → without key (insert ts at (key, ss)) ≡ ts
without_put key at ss ts h =
    let p : Table → Bool = λ (t : Table). not (eqb t.0 key) in
    let out : p (key, ss) ≡ false = ap not (eq-eqb key key refl) in
    filter-append p (take at ts) ((key, ss) ∷ drop at ts)
    ∙ ap (λ b. filter p (take at ts) ++ cond b ((key, ss) ∷ filter p (drop at ts)) (filter p (drop at ts))) out
    ∙ sym (filter-append p (take at ts) (drop at ts)) ∙ ap (filter p) (take-append-drop at ts) ∙ filter_all p ts h

-- no other object has the key
not_other : (key j : ℕ) (t : Table) (ts : List Table) → All (λ (t : Table). not (eqb t.0 key) ≡ true) ts
    → j < length ts → (get_or ts j t).0 ≡ key → ⊥
not_other key j t ts h l e =
    let other : not (eqb (get_or ts j t).0 key) ≡ true = h j t l in
    let same : eqb (get_or ts j t).0 key ≡ true = eq-eqb (get_or ts j t).0 key e in
    let out : not (eqb (get_or ts j t).0 key) ≡ false = ap not same in
    absurd (cc)

-- one that has the key stands where it was put
place_of_put : (key at j : ℕ) (ss : List NamedSymbol) (ts : List Table)
    → All (λ (t : Table). not (eqb t.0 key) ≡ true) ts → at ≤ length ts
    → ((t : Table) → (get_or (insert ts at (key, ss)) j t).0 ≡ key) → j ≡ at
place_of_put key at j ss ts h l is =
    ⊎_elim
    (λ lt.
    absurd (not_other key j (key, ss) ts h (omega (arith, lt, l))
    (ap (λ (t : Table). t.0) (sym (get_or-insert_below ts at (key, ss) (key, ss) j lt l)) ∙ is (key, ss))))
    (λ le. ⊎_elim (λ e. e) (λ ne. absurd (above j (omega (arith, le, ne)) is)) (cases_eq j at))
    (cases_lt j at)
  where
    stranger : Table
    stranger = (suc key, [])

    past : (k : ℕ) → at ≤ k → (get_or ts k stranger).0 ≡ key → ⊥
    past k le e =
        ⊎_elim (λ lt. not_other key k stranger ts h lt e)
        (λ ge. let far : (get_or ts k stranger).0 ≡ suc key = ap (λ (t : Table). t.0) (get_or_past ts k stranger ge) in
        omega (arith, far, e))
        (cases_lt k (length ts))

    above : (k : ℕ) → at < k → ((t : Table) → (get_or (insert ts at (key, ss)) k t).0 ≡ key) → ⊥
    above k lt is =
        let m : ℕ = k - 1 in
        let e : m + 1 ≡ k = omega (arith, lt) in
        past m (omega (arith, lt))
        (ap (λ (t : Table). t.0) (sym (get_or-insert_above ts at (key, ss) stranger m (omega (arith, lt)) l))
        ∙ ap (λ (n : ℕ). (get_or (insert ts at (key, ss)) n stranger).0) e ∙ is stranger)

-- ---- the lists

put_within : (xs : List ℕ) (at v : ℕ) → at < length (insert xs at v) → at ≤ length xs
put_within xs at v h =
    omega (
      arith,
      h,
      length-append (take at xs) (v ∷ drop at xs),
      length-take at xs,
      length-drop at xs,
    )

-- a list that was taken out and is put at the end
moved_list : (xs : List ℕ) (from n : ℕ) → from < length xs → HasList xs n
    → HasList (remove xs from ++ get_or xs from 0 ∷ []) n
moved_list xs from n l h =
    let rest : List ℕ = remove xs from in
    let v : ℕ = get_or xs from 0 in
    let short : length rest + 1 ≡ length xs = length-remove xs from l in
    let long : length (rest ++ v ∷ []) ≡ length xs = length-append rest (v ∷ []) ∙ short in
    ⊎_elim
    (λ lt.
    let inside : h.0 < length rest = omega (arith, lt, l, short) in (
      h.0,
      omega (arith, inside, long, short),
      omega (arith, h.2, get_or_append_left rest (v ∷ []) 0 h.0 inside, get_or-remove_below xs from 0 h.0 lt l),
    ))
    (λ le.
    ⊎_elim
    (λ e. (
      length rest,
      omega (arith, long, short),
      omega (arith, h.2, get_or_push rest v 0 (length rest) refl, ap (λ (k : ℕ). get_or xs k 0) e),
    ))
    (λ ne.
    let m : ℕ = h.0 - 1 in
    let e : m + 1 ≡ h.0 = omega (arith, le, ne) in
    let inside : m < length rest = omega (arith, h.1, short, le, ne) in (
      m,
      omega (arith, inside, long, short),
      omega (
        arith,
        h.2,
        get_or_append_left rest (v ∷ []) 0 m inside,
        get_or-remove_above xs from 0 m (omega (arith, le, ne)) l,
        ap (λ (k : ℕ). get_or xs k 0) e,
      ),
    ))
    (cases_eq h.0 from))
    (cases_lt h.0 from)

-- ---- together

pub again : (a b c d : State) (key at : ℕ) (new symbols : List NamedSymbol) → Withdraws a b key → Enters b c key at new
    → Withdraws c d key → MayEnter b symbols → MayEnter d symbols
again a b c d key at new symbols w e v m =
    let only : All (λ (t : Table). not (eqb t.0 key) ≡ true) b.objects =
    subst (All (λ (t : Table). not (eqb t.0 key) ≡ true)) (sym w.objects) (others_only key a.objects) in
    let objects : d.objects ≡ b.objects =
    v.objects ∙ ap (without key) e.objects ∙ without_put key at new b.objects only in
    let names : d.names ≡ b.names = v.same.names ∙ e.same.names in
    let room : d.room ≡ b.room = v.same.room ∙ e.same.room in
    let here : v.list.at ≡ at =
    place_of_put key at v.list.at new b.objects only e.within
    (subst (λ (ts : List Table). (t : Table) → (get_or ts v.list.at t).0 ≡ key) e.objects v.list.is) in
    let back : ℕ = get_or b.spare e.list.from 0 in
    let inside : at < length (insert b.held at back) =
    subst (λ (n : ℕ). n < length (insert b.held at back)) here
    (subst (λ (hs : List ℕ). v.list.at < length hs) e.list.held v.list.within) in
    let parked : get_or c.held v.list.at 0 ≡ back =
    ap (λ (n : ℕ). get_or c.held n 0) here ∙ ap (λ (hs : List ℕ). get_or hs at 0) e.list.held
    ∙ get_or-insert_at b.held at back 0 (put_within b.held at back inside) in
    let spare : d.spare ≡ remove b.spare e.list.from ++ back ∷ [] =
    v.list.spare ∙ ap (λ (xs : List ℕ). xs ++ get_or c.held v.list.at 0 ∷ []) e.list.spare
    ∙ ap (λ (n : ℕ). remove b.spare e.list.from ++ n ∷ []) parked in
    record {
      known = λ j x l q. let k = m.known j x l q in
          (k.0, ap (λ (ns : List (Option (List ℕ))). slot ns k.0) names ∙ k.1, omega (arith, k.2, ap length room));
      room = λ n name h l.
          let old = m.room n name (ap (λ (ns : List (Option (List ℕ))). slot ns n) (sym names) ∙ h)
          (omega (arith, l, ap length room)) in
          omega (
            arith,
            old,
            ap (λ (ts : List Table). length (entries_of name ts)) objects,
            ap (λ (r : List ℕ). get_or r n 0) room,
          );
      order = omega (arith, m.order, v.order, e.order);
      places = omega (arith, m.places, v.places, e.places);
      list = subst (λ (xs : List ℕ). HasList xs (length symbols)) (sym spare)
          (moved_list b.spare e.list.from (length symbols) e.list.within m.list);
    }
