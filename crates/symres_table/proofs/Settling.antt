-- Rows to whose ends an object's declarations were put, and their rotation into place.
use Rattle.symres_table.proofs.Common.{All, All-map, All-nil, All-take, Appended, Bool, Declared, Entered, Grows}
use Rattle.symres_table.proofs.Common.{IsPlace, IsSplit, IsTable, List, Numbered, PlacedKey, Settling, Some, [], ap}
use Rattle.symres_table.proofs.Common.{append-nil, append_assoc, arith, before, cases_eq, cases_lt, cond, declared}
use Rattle.symres_table.proofs.Common.{drop, drop_all, entries, eq-eqb, eqb, false, false≢true, filter-append, get_or}
use Rattle.symres_table.proofs.Common.{get_or-append_right, get_or-set_other, get_or_append_left, inl, inr}
use Rattle.symres_table.proofs.Common.{insert_slice, is_local, is_named, length, length-append, length-set, map, named}
use Rattle.symres_table.proofs.Common.{own, refl, set, slice_get, slice_get-get_or, subst, sym, take, take-append-drop}
use Rattle.symres_table.proofs.Common.{take-append-le, take_all, true, vec_capacity, vec_len, ℕ, ⊎_elim, ◌&&◌, ◌++◌}
use Rattle.symres_table.proofs.Common.{◌+◌, ◌-◌, ◌<◌, ◌||◌, ◌∙◌, ◌∷◌, ◌≡◌, ◌≤◌, ◌⊎◌}
use Rattle.std.proofs.Math.Seq.{take-append_seam, drop-append_seam}
use Rattle.symres_table.specs.Steps.{AreParts, ends_with, is_entry, IsOwnStart, IsSettling}
use Rattle.symres_table.proofs.Adding.{place_is, front_before, behind_not_before, map_push, entries-append}
use Rattle.symres_table.proofs.Cleared.{Row, set_here, was_here}
use Rattle.symres_table.proofs.Naming.{nothing, named_yes, named_no, named_local, named_push}

pub appended_start : (key : ℕ) (table : List Row) → Appended key [] table table
appended_start key table = record {
  long = refl;
  items = λ k d h. sym (append-nil _);
  len = λ k d h. omega arith;
  room = λ k d h. refl;
}

pub appended_step : (key : ℕ) (ss : List Numbered) (s : Numbered) (old mid : List Row) (v l : Row)
    → is_local s.symbol.binding ≡ false → s.name < length mid → v ≡ get_or mid s.name v
    → l.items ≡ v.items ++ declared key s ∷ [] → vec_len l ≡ vec_len v + 1 → vec_capacity l ≡ vec_capacity v
    → Appended key ss old mid → Appended key (ss ++ s ∷ []) old (set mid s.name l)
appended_step key ss s old mid v l vis w i p m c r = record {
  long = length-set mid s.name l ∙ r.long;
  items = λ k d h. ⊎_elim
      (λ same.
      let more : own k key (ss ++ s ∷ []) ≡ own k key ss ++ declared key s ∷ [] =
      ap (map (declared key)) (named_push k ss s true (named_yes k s vis (sym same))) ∙ map_push key (named k ss) s in
      let was : v.items ≡ (get_or old k d).items ++ own k key ss =
      ap (λ (x : Row). x.items) (sym (was_here mid s.name k v d (omega (arith, r.long)) same i)) ∙ r.items k d h in
      ap (λ (x : Row). x.items) (set_here mid s.name k l d w same) ∙ p
      ∙ ap (λ q. q ++ declared key s ∷ []) was
      ∙ append_assoc (get_or old k d).items (own k key ss) (declared key s ∷ [])
      ∙ ap (λ q. (get_or old k d).items ++ q) (sym more))
      (λ n.
      let more : own k key (ss ++ s ∷ []) ≡ own k key ss =
      ap (map (declared key)) (named_push k ss s false (named_no k s (λ q. n (sym q)))) in
      ap (λ (x : Row). x.items) (get_or-set_other mid s.name k l d n) ∙ r.items k d h
      ∙ ap (λ q. (get_or old k d).items ++ q) (sym more))
      (cases_eq k s.name);
  len = λ k d h. ⊎_elim
      (λ same.
      let count : length (named k (ss ++ s ∷ [])) ≡ length (named k ss) + 1 =
      ap length (named_push k ss s true (named_yes k s vis (sym same))) ∙ length-append (named k ss) (s ∷ []) in
      let was = ap vec_len (was_here mid s.name k v d (omega (arith, r.long)) same i) in
      let old' = r.len k d h in
      ap vec_len (set_here mid s.name k l d w same) ∙ omega (arith, m, count, was, old'))
      (λ n.
      let count : length (named k (ss ++ s ∷ [])) ≡ length (named k ss) =
      ap length (named_push k ss s false (named_no k s (λ q. n (sym q)))) in
      let old' = r.len k d h in
      ap vec_len (get_or-set_other mid s.name k l d n) ∙ omega (arith, count, old'))
      (cases_eq k s.name);
  room = λ k d h. ⊎_elim
      (λ same. ap vec_capacity (set_here mid s.name k l d w same) ∙ c
      ∙ ap vec_capacity (sym (was_here mid s.name k v d (omega (arith, r.long)) same i)) ∙ r.room k d h)
      (λ n. ap vec_capacity (get_or-set_other mid s.name k l d n) ∙ r.room k d h)
      (cases_eq k s.name);
}

-- a local symbol adds nothing
pub appended_local : (key : ℕ) (ss : List Numbered) (s : Numbered) (old new : List Row)
    → is_local s.symbol.binding ≡ true → Appended key ss old new → Appended key (ss ++ s ∷ []) old new
appended_local key ss s old new h r = record {
  long = r.long;
  items = λ k d l. r.items k d l
      ∙ ap (λ ns. (get_or old k d).items ++ map (declared key) ns)
      (sym (named_push k ss s false (named_local k s h)));
  len = λ k d l. let same = ap length (named_push k ss s false (named_local k s h)) in
      let old' = r.len k d l in omega (arith, same, old');
  room = r.room;
}

pub appended_grows : (key : ℕ) (ss : List Numbered) (old new : List Row) → Appended key ss old new → Grows old new ss
appended_grows key ss old new r = record { long = r.long; row = λ k d h. (r.room k d h, r.len k d h) }

nobody : Declared
nobody = declared 0 nothing

-- the key's declarations at the end begin no later than these
own_start_le : (key : ℕ) (row xs os : List Declared) (n : ℕ) → row ≡ xs ++ os
    → All (λ (d : Declared). eqb d.entry.object.0 key ≡ true) os → IsOwnStart key row n → n ≤ length xs
own_start_le key row xs os n e o s = ⊎_elim
    (λ more.
    let len = ap length e in
    let len' = length-append xs os in
    let w = s.within in
    let there : get_or row (n - 1) nobody ≡ get_or os (n - 1 - length xs) nobody =
    ap (λ l. get_or l (n - 1) nobody) e ∙ get_or-append_right xs os (length xs) (n - 1) nobody refl (omega arith) in
    absurd (false≢true (sym (s.other nobody (omega arith)) ∙ ap (λ (d : Declared). eqb d.entry.object.0 key) there
    ∙ o (n - 1 - length xs) nobody (omega (arith, len, len', w)))))
    (λ less. omega arith)
    (cases_lt (length xs) n)

or_left : (a b : Bool) → (a || b) ≡ false → a ≡ false
or_left true b e = absurd (false≢true (sym e))
or_left false b e = refl

-- what does not stand before the place is of another key
other_key : (place : List PlacedKey) (at key : ℕ) (d : Declared) → before place at key d ≡ false
    → eqb d.entry.object.0 key ≡ false
other_key place at key d h = or_left (eqb d.entry.object.0 key) _ h

own_start_ge : (key : ℕ) (row xs os : List Declared) (n : ℕ) → row ≡ xs ++ os
    → (0 < length xs → eqb (get_or xs (length xs - 1) nobody).entry.object.0 key ≡ false) → IsOwnStart key row n
    → length xs ≤ n
own_start_ge key row xs os n e o s = ⊎_elim
    (λ less.
    let len = ap length e in
    let len' = length-append xs os in
    let there : get_or row (length xs - 1) nobody ≡ get_or xs (length xs - 1) nobody =
    ap (λ l. get_or l (length xs - 1) nobody) e ∙ get_or_append_left xs os nobody (length xs - 1) (omega arith) in
    absurd (false≢true (sym (o (omega arith)) ∙ ap (λ (d : Declared). eqb d.entry.object.0 key) (sym there)
    ∙ s.own (length xs - 1) nobody (omega arith) (omega (arith, len, len')))))
    (λ more. omega arith)
    (cases_lt n (length xs))

settle_none : (place : List PlacedKey) (at key : ℕ) (row fs os : List Declared) (n j : ℕ)
    → AreParts place at key fs [] os → row ≡ fs ++ os → IsOwnStart key row n
    → IsPlace place at key (take n row) j → insert_slice (take n row) j (drop n row) ≡ row
settle_none place at key row fs os n j a e s p =
    let le : n ≤ length fs = own_start_le key row fs os n e a.own s in
    let is : take n row ≡ take n fs = ap (take n) e ∙ take-append-le n fs os le in
    let all : All (λ d. before place at key d ≡ true) (take n row) =
    subst (λ l. All (λ d. before place at key d ≡ true) l) (sym is)
    (All-take (λ d. before place at key d ≡ true) n fs a.front) in
    let at_end : j ≡ length (take n row) = place_is place at key (take n row) [] j nobody
    (subst (λ l. IsPlace place at key l j) (sym (append-nil (take n row))) p) all
    (All-nil (λ d. before place at key d ≡ false)) in
    ap (λ l. (l ++ drop n row) ++ drop j (take n row)) (take_all j (take n row) (omega arith))
    ∙ ap (λ l. (take n row ++ drop n row) ++ l) (drop_all j (take n row) (omega arith))
    ∙ append-nil (take n row ++ drop n row) ∙ take-append-drop n row

pub settle_is : (place : List PlacedKey) (at key : ℕ) (row fs bs os : List Declared) (n j : ℕ)
    → AreParts place at key fs bs os → row ≡ fs ++ (bs ++ os) → IsOwnStart key row n
    → IsPlace place at key (take n row) j → insert_slice (take n row) j (drop n row) ≡ fs ++ (os ++ bs)
settle_is place at key row fs [] os n j a e s p =
    settle_none place at key row fs os n j a e s p ∙ e ∙ ap (λ l. fs ++ l) (sym (append-nil os))
settle_is place at key row fs (b ∷ bs) os n j a e s p =
    let e' : row ≡ (fs ++ (b ∷ bs)) ++ os = e ∙ sym (append_assoc fs (b ∷ bs) os) in
    let len = length-append fs (b ∷ bs) in
    let at_last : ℕ = length (fs ++ (b ∷ bs)) - 1 in
    let last : get_or (fs ++ (b ∷ bs)) at_last nobody ≡ get_or (b ∷ bs) (at_last - length fs) nobody =
    get_or-append_right fs (b ∷ bs) (length fs) (length (fs ++ (b ∷ bs)) - 1) nobody refl (omega (arith, len)) in
    let other : eqb (get_or (fs ++ (b ∷ bs)) (length (fs ++ (b ∷ bs)) - 1) nobody).entry.object.0 key ≡ false =
    ap (λ (d : Declared). eqb d.entry.object.0 key) last
    ∙ other_key place at key (get_or (b ∷ bs) (at_last - length fs) nobody)
    (a.behind (at_last - length fs) nobody (omega (arith, len))) in
    let le = own_start_le key row (fs ++ (b ∷ bs)) os n e' a.own s in
    let ge = own_start_ge key row (fs ++ (b ∷ bs)) os n e' (λ h. other) s in
    let is : n ≡ length (fs ++ (b ∷ bs)) = omega (arith, le, ge) in
    let front : take n row ≡ fs ++ (b ∷ bs) = ap (take n) e' ∙ ap (λ m. take m ((fs ++ (b ∷ bs)) ++ os)) is
    ∙ take-append_seam (fs ++ (b ∷ bs)) os in
    let rest : drop n row ≡ os = ap (drop n) e' ∙ ap (λ m. drop m ((fs ++ (b ∷ bs)) ++ os)) is
    ∙ drop-append_seam (fs ++ (b ∷ bs)) os in
    let here : j ≡ length fs = place_is place at key fs (b ∷ bs) j nobody
    (subst (λ l. IsPlace place at key l j) front p) a.front a.behind in
    ap (λ l. insert_slice l j (drop n row)) front ∙ ap (λ l. insert_slice (fs ++ (b ∷ bs)) j l) rest
    ∙ ap (λ m. insert_slice (fs ++ (b ∷ bs)) m os) here
    ∙ ap (λ l. (l ++ os) ++ drop (length fs) (fs ++ (b ∷ bs))) (take-append_seam fs (b ∷ bs))
    ∙ ap (λ l. (fs ++ os) ++ l) (drop-append_seam fs (b ∷ bs))
    ∙ append_assoc fs os (b ∷ bs)

last_of : (xs : List Declared) (y : Declared) (ys : List Declared)
    → slice_get (xs ++ (y ∷ ys)) (length (xs ++ (y ∷ ys)) - 1) ≡ Some (get_or (y ∷ ys) (length ys) nobody)
last_of xs y ys =
    let len = length-append xs (y ∷ ys) in
    let e : length (xs ++ (y ∷ ys)) - 1 - length xs ≡ length ys = omega (arith, len) in
    slice_get-get_or (xs ++ (y ∷ ys)) (length (xs ++ (y ∷ ys)) - 1) nobody (omega (arith, len))
    ∙ ap Some (get_or-append_right xs (y ∷ ys) (length xs) (length (xs ++ (y ∷ ys)) - 1) nobody refl
    (omega (arith, len))
    ∙ ap (λ m. get_or (y ∷ ys) m nobody) e)

ends_declared : (key : ℕ) (s : Numbered) (ds : List Declared)
    → ends_with key s.number (ds ++ declared key s ∷ []) ≡ true
ends_declared key s ds = ap (is_entry key s.number) (last_of ds (declared key s) [])
    ∙ ap (λ b. b && eqb s.number s.number) (eq-eqb key key refl) ∙ eq-eqb s.number s.number refl

-- a row that ends with the last symbol is found
pub last_found : (key : ℕ) (s : Numbered) (row fs bs os : List Declared)
    → row ≡ fs ++ (bs ++ (os ++ declared key s ∷ [])) → ends_with key s.number row ≡ true
last_found key s row fs bs os e = ap (ends_with key s.number) (e
    ∙ ap (λ l. fs ++ l) (sym (append_assoc bs os (declared key s ∷ [])))
    ∙ sym (append_assoc fs (bs ++ os) (declared key s ∷ [])))
    ∙ ends_declared key s (fs ++ (bs ++ os))

and_left : (a b : Bool) → a ≡ false → (a && b) ≡ false
and_left true b e = absurd (false≢true (sym e))
and_left false b e = refl

-- a row in order stays
pub settled_same : (place : List PlacedKey) (at key number : ℕ) (row row' fs bs os : List Declared)
    → AreParts place at key fs bs os → row ≡ fs ++ (os ++ bs) → ends_with key number row ≡ true
    → ((fs bs os : List Declared) → AreParts place at key fs bs os → row ≡ fs ++ (bs ++ os) → row' ≡ fs ++ (os ++ bs))
    → row' ≡ row
settled_same place at key number row row' fs [] os a e h f =
    f fs [] os a (e ∙ ap (λ l. fs ++ l) (append-nil os)) ∙ sym e
settled_same place at key number row row' fs (b ∷ bs) os a e h f =
    let d : Declared = get_or (b ∷ bs) (length bs) nobody in
    let last : slice_get row (length row - 1) ≡ Some d =
    ap (λ l. slice_get l (length l - 1)) (e ∙ sym (append_assoc fs os (b ∷ bs))) ∙ last_of (fs ++ os) b bs in
    let other : eqb d.entry.object.0 key ≡ false = other_key place at key d
    (a.behind (length bs) nobody (omega arith)) in
    absurd (false≢true (sym (ap (is_entry key number) last ∙ and_left (eqb d.entry.object.0 key) _ other) ∙ h))

pub settling_start : (place : List PlacedKey) (at key : ℕ) (ss : List Numbered) (table : List Row)
    → Settling place at key ss ss table table
settling_start place at key ss table = record {
  long = refl;
  len = λ k d h. refl;
  room = λ k d h. refl;
  items = λ k d fs bs h a e. go k fs bs (get_or table k d).items (named k ss) refl e;
}
  where
    go : (k : ℕ) (fs bs l : List Declared) (ns : List Numbered) → named k ss ≡ ns → l ≡ fs ++ (bs ++ own k key ss)
        → IsSettling ns fs bs (own k key ss) l
    go k fs bs l [] is e = inr (e ∙ ap (λ ns. fs ++ (bs ++ map (declared key) ns)) is
        ∙ ap (λ q. fs ++ q) (append-nil bs)
        ∙ sym (ap (λ ns. fs ++ (map (declared key) ns ++ bs)) is))
    go k fs bs l (n ∷ ns) is e = inl ((λ q. absurd (cc)), e)

-- a row's clauses of a step
pub record Step (place : List PlacedKey) (at key : ℕ) (s : Numbered) (v l : Row) : Type 0 where
  pub last : (fs bs os : List Declared) → AreParts place at key fs bs (os ++ declared key s ∷ [])
      → v.items ≡ fs ++ (bs ++ (os ++ declared key s ∷ [])) → l.items ≡ fs ++ ((os ++ declared key s ∷ []) ++ bs)
  pub either : (fs bs os : List Declared) → AreParts place at key fs bs os → v.items ≡ fs ++ (bs ++ os)
      → (l.items ≡ v.items) ⊎ (l.items ≡ fs ++ (os ++ bs))
  pub settled : (fs bs os : List Declared) → AreParts place at key fs bs os → v.items ≡ fs ++ (os ++ bs)
      → l.items ≡ v.items
  pub len : vec_len l ≡ vec_len v
  pub room : vec_capacity l ≡ vec_capacity v

row_step : (place : List PlacedKey) (at key k : ℕ) (ss left : List Numbered) (s : Numbered) (v l : Row)
    (fs bs : List Declared)
    → is_named k s ≡ true → Step place at key s v l → AreParts place at key fs bs (own k key (ss ++ s ∷ left))
    → IsSettling (named k (s ∷ left)) fs bs (own k key (ss ++ s ∷ left)) v.items
    → (ns : List Numbered) → named k left ≡ ns → IsSettling ns fs bs (own k key (ss ++ s ∷ left)) l.items
row_step place at key k ss left s v l fs bs is t a (inr settled) ns e = inr (t.settled fs bs _ a settled ∙ settled)
row_step place at key k ss left s v l fs bs is t a (inl p) [] e =
    let mine : own k key (ss ++ s ∷ left) ≡ own k key ss ++ declared key s ∷ [] =
    ap (map (declared key)) (filter-append (is_named k) ss (s ∷ left)
    ∙ ap (λ b. named k ss ++ cond b (s ∷ named k left) (named k left)) is
    ∙ ap (λ q. named k ss ++ s ∷ q) e) ∙ map_push key (named k ss) s in
    inr (t.last fs bs (own k key ss) (subst (λ os. AreParts place at key fs bs os) mine a)
    (p.1 ∙ ap (λ os. fs ++ (bs ++ os)) mine) ∙ sym (ap (λ os. fs ++ (os ++ bs)) mine))
row_step place at key k ss left s v l fs bs is t a (inl p) (n ∷ ns) e = ⊎_elim
    (λ same. inl ((λ q. absurd (cc)), same ∙ p.1)) (λ settled. inr settled) (t.either fs bs _ a p.1)

pub settling_step : (place : List PlacedKey) (at key : ℕ) (ss left : List Numbered) (s : Numbered) (old mid : List Row)
    (v l : Row)
    → is_local s.symbol.binding ≡ false → s.name < length mid → v ≡ get_or mid s.name v → Step place at key s v l
    → Settling place at key (ss ++ s ∷ left) (s ∷ left) old mid
    → Settling place at key (ss ++ s ∷ left) left old (set mid s.name l)
settling_step place at key ss left s old mid v l vis w i t r = record {
  long = length-set mid s.name l ∙ r.long;
  len = λ k d h. ⊎_elim
      (λ same. ap vec_len (set_here mid s.name k l d w same) ∙ t.len
      ∙ ap vec_len (sym (was_here mid s.name k v d (omega (arith, r.long)) same i)) ∙ r.len k d h)
      (λ n. ap vec_len (get_or-set_other mid s.name k l d n) ∙ r.len k d h)
      (cases_eq k s.name);
  room = λ k d h. ⊎_elim
      (λ same. ap vec_capacity (set_here mid s.name k l d w same) ∙ t.room
      ∙ ap vec_capacity (sym (was_here mid s.name k v d (omega (arith, r.long)) same i)) ∙ r.room k d h)
      (λ n. ap vec_capacity (get_or-set_other mid s.name k l d n) ∙ r.room k d h)
      (cases_eq k s.name);
  items = λ k d fs bs h a e. ⊎_elim
      (λ same.
      let all : List Declared = own k key (ss ++ s ∷ left) in
      let was : IsSettling (named k (s ∷ left)) fs bs all v.items =
      subst (λ (x : Row). IsSettling (named k (s ∷ left)) fs bs all x.items)
      (was_here mid s.name k v d (omega (arith, r.long)) same i) (r.items k d fs bs h a e) in
      subst (λ (x : Row). IsSettling (named k left) fs bs all x.items) (sym (set_here mid s.name k l d w same))
      (row_step place at key k ss left s v l fs bs (named_yes k s vis (sym same)) t a was (named k left) refl))
      (λ n.
      let all : List Declared = own k key (ss ++ s ∷ left) in
      let fewer : named k (s ∷ left) ≡ named k left =
      ap (λ b. cond b (s ∷ named k left) (named k left)) (named_no k s (λ q. n (sym q))) in
      subst (λ (x : Row). IsSettling (named k left) fs bs all x.items) (sym (get_or-set_other mid s.name k l d n))
      (subst (λ ns. IsSettling ns fs bs all (get_or mid k d).items) fewer (r.items k d fs bs h a e)))
      (cases_eq k s.name);
}

pub settling_local : (place : List PlacedKey) (at key : ℕ) (ss left : List Numbered) (s : Numbered) (old new : List Row)
    → is_local s.symbol.binding ≡ true → Settling place at key ss (s ∷ left) old new
    → Settling place at key ss left old new
settling_local place at key ss left s old new h r = record {
  long = r.long;
  len = r.len;
  room = r.room;
  items = λ k d fs bs l a e.
      subst (λ ns. IsSettling ns fs bs (own k key ss) (get_or new k d).items)
      (ap (λ b. cond b (s ∷ named k left) (named k left)) (named_local k s h)) (r.items k d fs bs l a e);
}

own_key : (k key : ℕ) (ss : List Numbered) → All (λ (d : Declared). eqb d.entry.object.0 key ≡ true) (own k key ss)
own_key k key ss = All-map (λ (d : Declared). eqb d.entry.object.0 key ≡ true) (declared key) (named k ss) (λ j d l.
    eq-eqb key key refl)

settled_is : (fs bs os l : List Declared) → IsSettling [] fs bs os l → l ≡ fs ++ (os ++ bs)
settled_is fs bs os l (inl p) = absurd (p.0 refl)
settled_is fs bs os l (inr e) = e

pub table_added : (place : List PlacedKey) (at key : ℕ) (ss : List Numbered) (old mid new : List Row)
    → Appended key ss old mid → Settling place at key ss [] mid new
    → (xs ys : List Entered) → IsSplit place at key xs ys → IsTable old (xs ++ ys) → (room : ℕ)
    → IsTable new (xs ++ record { key = key; symbols = ss; room = room } ∷ ys)
table_added place at key ss old mid new a r xs ys s t room = record {
  row = λ k d h.
      let w : k < length mid = omega (arith, r.long) in
      let w' : k < length old = omega (arith, a.long) in
      let parts : AreParts place at key (entries k xs) (entries k ys) (own k key ss) = record {
        front = front_before place at key k xs ys s;
        behind = behind_not_before place at key k xs ys s;
        own = own_key k key ss;
      } in
      let was : (get_or mid k d).items ≡ entries k xs ++ (entries k ys ++ own k key ss) =
      a.items k d w' ∙ ap (λ l. l ++ own k key ss) (t.row k d w' ∙ entries-append k xs ys)
      ∙ append_assoc (entries k xs) (entries k ys) (own k key ss) in
      settled_is (entries k xs) (entries k ys) (own k key ss) _ (r.items k d (entries k xs) (entries k ys) w parts was)
      ∙ sym (entries-append k xs (record { key = key; symbols = ss; room = room } ∷ ys));
}

-- an object that comes last is in its place
pub table_last : (key : ℕ) (ss : List Numbered) (old new : List Row) → Appended key ss old new
    → (xs ys : List Entered) → ys ≡ [] → IsTable old (xs ++ ys) → (room : ℕ)
    → IsTable new (xs ++ record { key = key; symbols = ss; room = room } ∷ ys)
table_last key ss old new a xs ys none t room = record {
  row = λ k d h.
      let was : (get_or old k d).items ≡ entries k xs = t.row k d (omega (arith, a.long)) ∙ entries-append k xs ys
      ∙ ap (λ l. entries k xs ++ entries k l) none ∙ append-nil (entries k xs) in
      a.items k d (omega (arith, a.long)) ∙ ap (λ l. l ++ own k key ss) was
      ∙ ap (λ l. entries k xs ++ l) (sym (append-nil (own k key ss)))
      ∙ ap (λ l. entries k xs ++ (own k key ss ++ entries k l)) (sym none)
      ∙ sym (entries-append k xs (record { key = key; symbols = ss; room = room } ∷ ys));
}

pub all_grow : (place : List PlacedKey) (at key : ℕ) (ss : List Numbered) (old mid new : List Row)
    → Appended key ss old mid
    → Settling place at key ss [] mid new → Grows old new ss
all_grow place at key ss old mid new a r = record {
  long = r.long ∙ a.long;
  row = λ k d h.
      let w : k < length mid = omega (arith, a.long) in
      let g = (appended_grows key ss old mid a).row k d h in
      (r.room k d w ∙ g.0, r.len k d w ∙ g.1);
}
