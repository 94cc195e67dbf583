-- Symbol tables of entered objects, where one goes and one comes.
use Rattle.symres_decisions.proofs.Common.{All, All-head, All-tail, Bool, CanCome, CanGo, Fits, IsFresh, List}
use Rattle.symres_decisions.proofs.Common.{NamedSymbol, None, ObjectAt, ObjectChange, Option, Some, StandsAt, Table, []}
use Rattle.symres_decisions.proofs.Common.{ap, arith, cases_lt, changed_tables, cond, drop, eq-eqb, eqb, false, filter}
use Rattle.symres_decisions.proofs.Common.{filter-append, filter_passes, get_or, get_or-insert_at, insert, length}
use Rattle.symres_decisions.proofs.Common.{length-insert, not, put_in, refl, remove, reversed, subst, suc, sym}
use Rattle.symres_decisions.proofs.Common.{symbols_at, take, take-append-drop, taken_out, true, without, zero, ℕ}
use Rattle.symres_decisions.proofs.Common.{⊎_elim, ◌++◌, ◌+◌, ◌-◌, ◌<◌, ◌∙◌, ◌∷◌, ◌≡◌, ◌≤◌}
use Rattle.std.proofs.lemmas.List.Edits.{get_or-remove_above, get_or-remove_below, length-remove}

-- ---- lists

pub remove_insert : {X : Type 0} (xs : List X) (i : ℕ) (y : X) → i ≤ length xs → remove (insert xs i y) i ≡ xs
remove_insert xs zero y l = refl
remove_insert [] (suc i) y l = absurd (omega (arith, l))
remove_insert (x ∷ xs) (suc i) y l = ap (λ (l : List _). x ∷ l) (remove_insert xs i y (omega (arith, l)))

pub insert_remove : {X : Type 0} (xs : List X) (i : ℕ) (y : X) → i < length xs → get_or xs i y ≡ y
    → insert (remove xs i) i y ≡ xs
insert_remove [] i y l e = absurd (omega (arith, l))
insert_remove (x ∷ xs) zero y l e = ap (λ (z : _). z ∷ xs) (sym e)
insert_remove (x ∷ xs) (suc i) y l e = ap (λ (l : List _). x ∷ l) (insert_remove xs i y (omega (arith, l)) e)

filter_all : {X : Type 0} (p : X → Bool) (xs : List X) → All (λ (x : X). p x ≡ true) xs → filter p xs ≡ xs
filter_all p [] h = refl
filter_all p (x ∷ xs) h =
    ap (λ b. cond b (x ∷ filter p xs) (filter p xs)) (All-head (λ x. p x ≡ true) x xs h)
    ∙ ap (λ l. x ∷ l) (filter_all p xs (All-tail (λ x. p x ≡ true) x xs h))

-- ---- the objects without one

-- none has the key
without_fresh : (key : ℕ) (ts : List Table) → IsFresh key ts → without key ts ≡ ts
without_fresh key ts h = filter_all (λ (t : Table). not (eqb t.0 key)) ts (λ j t l. ap not (h j t l))

not_true : (b : Bool) → not b ≡ true → b ≡ false
not_true true h = absurd (cc)
not_true false h = refl

pub fresh_without : (key : ℕ) (ts : List Table) → IsFresh key (without key ts)
fresh_without key ts = λ j t l.
    not_true (eqb (get_or (without key ts) j t).0 key) (filter_passes (λ (t : Table). not (eqb t.0 key)) ts j t l)

pub without_put : (key at : ℕ) (ss : List NamedSymbol) (ts : List Table) → IsFresh key ts
    → without key (insert ts at (key, ss)) ≡ ts
without_put key at ss ts h =
    let p : Table → Bool = λ (t : Table). not (eqb t.0 key) in
    let out : p (key, ss) ≡ false = ap not (eq-eqb key key refl) in
    filter-append p (take at ts) ((key, ss) ∷ drop at ts)
    ∙ ap (λ b. filter p (take at ts) ++ cond b ((key, ss) ∷ filter p (drop at ts)) (filter p (drop at ts))) out
    ∙ sym (filter-append p (take at ts) (drop at ts)) ∙ ap (filter p) (take-append-drop at ts) ∙ without_fresh key ts h

-- the object that stands at its place is the only one
pub without_there : (key : ℕ) (x : ObjectAt) (ts : List Table) → StandsAt ts key x → without key ts ≡ remove ts x.place
without_there key x ts h =
    let t : Table = (key, symbols_at x) in
    ap (without key) (sym (insert_remove ts x.place t h.within (h.is t)))
    ∙ without_put key x.place (symbols_at x) (remove ts x.place) h.only

pub shorter : (key : ℕ) (x : ObjectAt) (ts : List Table) → StandsAt ts key x → length (without key ts) + 1 ≡ length ts
shorter key x ts h =
    let e = ap (λ (l : List Table). length l) (without_there key x ts h) in
    omega (arith, e, length-remove ts x.place h.within)

-- an object of the key is that one
pub only_there : (key j : ℕ) (x : ObjectAt) (ts : List Table) (t : Table) → StandsAt ts key x → j < length ts
    → eqb (get_or ts j t).0 key ≡ true → get_or ts j t ≡ (key, symbols_at x)
only_there key j x ts t h l e =
    ⊎_elim
    (λ lt.
    let out = h.only j t (omega (arith, lt, length-remove ts x.place h.within, h.within)) in
    absurd (clash (eqb (get_or ts j t).0 key) e
    (ap (λ (u : Table). eqb u.0 key) (sym (get_or-remove_below ts x.place t j lt h.within)) ∙ out)))
    (λ le.
    ⊎_elim
    (λ gt.
    let m : ℕ = j - 1 in
    let back : m + 1 ≡ j = omega (arith, gt) in
    let out = h.only m t (omega (arith, l, back, length-remove ts x.place h.within)) in
    absurd (clash (eqb (get_or ts j t).0 key) e
    (ap (λ (n : ℕ). eqb (get_or ts n t).0 key) (sym back)
    ∙ ap (λ (u : Table). eqb u.0 key)
    (sym (get_or-remove_above ts x.place t m (omega (arith, gt, back)) h.within)) ∙ out)))
    (λ ge.
    let same : j ≡ x.place = omega (arith, le, ge) in
    ap (λ (n : ℕ). get_or ts n t) same ∙ h.is t)
    (cases_lt x.place j))
    (cases_lt j x.place)
  where
    clash : (b : Bool) → b ≡ true → b ≡ false → ⊥
    clash b p q = absurd (cc)

-- ---- what goes and what comes

pub out_fresh : (ts : List Table) (key : ℕ) (out : Option ObjectAt) → CanGo ts key out
    → IsFresh key (taken_out ts key out)
out_fresh ts key None h = h
out_fresh ts key (Some x) h = fresh_without key ts

-- what came stands at its place
pub there_after : (ts : List Table) (key : ℕ) (into : Option ObjectAt) → IsFresh key ts → CanCome ts into
    → CanGo (put_in ts key into) key into
there_after ts key None fresh h = fresh
there_after ts key (Some x) fresh h =
    let t : Table = (key, symbols_at x) in
    record {
      within = omega (arith, h, length-insert ts x.place t h);
      is = λ d. get_or-insert_at ts x.place t d h;
      only = subst (IsFresh key) (sym (remove_insert ts x.place t h)) fresh;
    }

-- without it the objects are as they were before it came
pub come_undone : (ts : List Table) (key : ℕ) (into : Option ObjectAt) → IsFresh key ts
    → taken_out (put_in ts key into) key into ≡ ts
come_undone ts key None fresh = refl
come_undone ts key (Some x) fresh = without_put key x.place (symbols_at x) ts fresh

-- what went can come again
pub go_undone : (ts : List Table) (key : ℕ) (out : Option ObjectAt) → CanGo ts key out
    → put_in (taken_out ts key out) key out ≡ ts
go_undone ts key None h = refl
go_undone ts key (Some x) h =
    let t : Table = (key, symbols_at x) in
    ap (λ (l : List Table). insert l x.place t) (without_there key x ts h)
    ∙ insert_remove ts x.place t h.within (h.is t)

pub may_return : (ts : List Table) (key : ℕ) (out : Option ObjectAt) → CanGo ts key out
    → CanCome (taken_out ts key out) out
may_return ts key None h = tt
may_return ts key (Some x) h = omega (arith, h.within, shorter key x ts h)

pub undone_is : (ts : List Table) (c : ObjectChange) → Fits ts c
    → changed_tables (changed_tables ts c) (reversed c) ≡ ts
undone_is ts c h =
    ap (λ (l : List Table). put_in l c.key.0 c.out)
    (come_undone (taken_out ts c.key.0 c.out) c.key.0 c.into (out_fresh ts c.key.0 c.out h.out))
    ∙ go_undone ts c.key.0 c.out h.out

-- the change back fits the objects after the change
pub fits_back : (ts : List Table) (c : ObjectChange) → Fits ts c → Fits (changed_tables ts c) (reversed c)
fits_back ts c h =
    let mid : List Table = taken_out ts c.key.0 c.out in
    let fresh : IsFresh c.key.0 mid = out_fresh ts c.key.0 c.out h.out in
    record {
      out = there_after mid c.key.0 c.into fresh h.into;
      into = subst (λ (l : List Table). CanCome l c.out) (sym (come_undone mid c.key.0 c.into fresh))
          (may_return ts c.key.0 c.out h.out);
    }
