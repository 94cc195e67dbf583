-- Without its object a name has the entries of the others, in their order: rows that are marked and then cleared.
use Rattle.symres_table.proofs.Common.{All-head, All-tail, AllMarkedLast, Bool, ClearedWhere, Declared, Entered}
use Rattle.symres_table.proofs.Common.{HasSymbols, IsTable, KeepsRoom, List, Numbered, Some, Vec, [], ap, append-nil}
use Rattle.symres_table.proofs.Common.{arith, cases_eq, cond, declared, ends_in, entries, eq-eqb, eqb, false}
use Rattle.symres_table.proofs.Common.{false≢true, filter-append, get_or, get_or-append_right, get_or-set_other}
use Rattle.symres_table.proofs.Common.{get_or_default, inl, inr, is_local, is_named, length, length-append, length-set}
use Rattle.symres_table.proofs.Common.{map, named, not, others, own, refl, set, slice_get-get_or, subst, sym, true}
use Rattle.symres_table.proofs.Common.{vec_capacity, ℕ, ⊎_elim, ◌++◌, ◌-◌, ◌<◌, ◌||◌, ◌∙◌, ◌∷◌, ◌≡◌, ◌≢◌}
use Rattle.std.proofs.Common.{Global, get_or-set_same}
use Rattle.symres_table.specs.Numbers.{without}
use Rattle.symres_table.specs.Steps.{cleared, has_name, Cleared, MarksLast, is_of, IsMarkedLast}
use Rattle.symres_table.proofs.Naming.{named_yes, named_no, named_local}

abbrev pub Row : Type 0
Row = Vec Declared Global

others_twice : (key : ℕ) (ds : List Declared) → others key (others key ds) ≡ others key ds
others_twice key [] = refl
others_twice key (d ∷ ds) = go (not (eqb d.entry.object.0 key)) refl (others_twice key ds)
  where
    go : (b : Bool) → not (eqb d.entry.object.0 key) ≡ b → others key (others key ds) ≡ others key ds
        → others key (cond b (d ∷ others key ds) (others key ds)) ≡ cond b (d ∷ others key ds) (others key ds)
    go true e h = rw e (ap (λ l. d ∷ l) h)
    go false e h = h

others_cleared : (key : ℕ) (b : Bool) (ds : List Declared) → others key (cleared key b ds) ≡ others key ds
others_cleared key true ds = others_twice key ds
others_cleared key false ds = refl

others-append : (key : ℕ) (xs ys : List Declared) → others key (xs ++ ys) ≡ others key xs ++ others key ys
others-append key xs ys = filter-append (λ (d : Declared). not (eqb d.entry.object.0 key)) xs ys

others_of : (key k : ℕ) (ss : List Numbered) (b : Bool) → eqb k key ≡ b → others key (map (declared k) ss)
    ≡ cond b [] (map (declared k) ss)
others_of key k [] true e = refl
others_of key k [] false e = refl
others_of key k (s ∷ ss) true e = rw e (others_of key k ss true e)
others_of key k (s ∷ ss) false e = rw e (ap (λ l. declared k s ∷ l) (others_of key k ss false e))

-- without its object a name has the other objects' declarations
pub entries_without : (key k : ℕ) (os : List Entered) → entries k (without key os) ≡ others key (entries k os)
entries_without key k [] = refl
entries_without key k (o ∷ os) = go (eqb o.key key) refl (entries_without key k os)
  where
    go : (b : Bool) → eqb o.key key ≡ b → entries k (without key os) ≡ others key (entries k os)
        → entries k (cond (not b) (o ∷ without key os) (without key os))
        ≡ others key (own k o.key o.symbols ++ entries k os)
    go true e h = h ∙ ap (λ l. l ++ others key (entries k os)) (sym (others_of key o.key (named k o.symbols) true e))
        ∙ sym (others-append key (own k o.key o.symbols) (entries k os))
    go false e h = ap (λ l. own k o.key o.symbols ++ l) h
        ∙ ap (λ l. l ++ others key (entries k os)) (sym (others_of key o.key (named k o.symbols) false e))
        ∙ sym (others-append key (own k o.key o.symbols) (entries k os))

pub unnamed : (k : ℕ) (ss : List Numbered) → has_name k ss ≡ false → named k ss ≡ []
unnamed k [] h = refl
unnamed k (s ∷ ss) h = go (is_named k s) refl h (unnamed k ss)
  where
    go : (b : Bool) → is_named k s ≡ b → (b || has_name k ss) ≡ false → (has_name k ss ≡ false → named k ss ≡ [])
        → cond b (s ∷ named k ss) (named k ss) ≡ []
    go true e h f = absurd (false≢true (sym h))
    go false e h f = f h

-- an object that does not have the name leaves the row as it is
not_named : (key k : ℕ) (ss : List Numbered) (os : List Entered) → has_name k ss ≡ false → HasSymbols key ss os
    → others key (entries k os) ≡ entries k os
not_named key k ss [] h s = refl
not_named key k ss (o ∷ os) h s =
    go (eqb o.key key) refl
    (not_named key k ss os h (All-tail (λ (o : Entered). eqb o.key key ≡ true → o.symbols ≡ ss) o os s))
  where
    go : (b : Bool) → eqb o.key key ≡ b → others key (entries k os) ≡ entries k os
        → others key (own k o.key o.symbols ++ entries k os) ≡ own k o.key o.symbols ++ entries k os
    go true e r =
        let mine : o.symbols ≡ ss = All-head (λ (o : Entered). eqb o.key key ≡ true → o.symbols ≡ ss) o os s e in
        let none : own k o.key o.symbols ≡ [] = ap (map (declared o.key)) (ap (named k) mine ∙ unnamed k ss h) in
        rw none r
    go false e r = others-append key (own k o.key o.symbols) (entries k os)
        ∙ ap (λ l. l ++ others key (entries k os)) (others_of key o.key (named k o.symbols) false e)
        ∙ ap (λ l. own k o.key o.symbols ++ l) r

pub named_now : (k : ℕ) (ss : List Numbered) (s : Numbered) (b : Bool) → is_named k s ≡ b → has_name k (ss ++ s ∷ [])
    ≡ cond b true (has_name k ss)
named_now k [] s true e = rw e refl
named_now k [] s false e = rw e refl
named_now k (x ∷ ss) s true e = go (is_named k x) (named_now k ss s true e)
  where
    go : (c : Bool) → has_name k (ss ++ s ∷ []) ≡ true → (c || has_name k (ss ++ s ∷ [])) ≡ true
    go true h = refl
    go false h = h
named_now k (x ∷ ss) s false e = ap (λ b. is_named k x || b) (named_now k ss s false e)

pub set_here : (mid : List Row) (n k : ℕ) (l d : Row) → n < length mid → k ≡ n → get_or (set mid n l) k d ≡ l
set_here mid n k l d w same = ap (λ q. get_or (set mid n l) q d) same ∙ get_or-set_same mid n l d w

pub was_here : (mid : List Row) (n k : ℕ) (v d : Row) → k < length mid → k ≡ n → v ≡ get_or mid n v → get_or mid k d ≡ v
was_here mid n k v d h same i = get_or_default mid k d v h ∙ ap (λ q. get_or mid q v) same ∙ sym i

keeps_set : (n : ℕ) (old mid : List Row) (v l : Row) → n < length mid → v ≡ get_or mid n v
    → vec_capacity l ≡ vec_capacity v → KeepsRoom old mid → KeepsRoom old (set mid n l)
keeps_set n old mid v l w i c r = record {
  long = length-set mid n l ∙ r.long;
  row = λ k d h. ⊎_elim
      (λ same. ap vec_capacity (set_here mid n k l d w same) ∙ c
      ∙ ap vec_capacity (sym (was_here mid n k v d (omega (arith, r.long)) same i)) ∙ r.row k d h)
      (λ ne. ap vec_capacity (get_or-set_other mid n k l d ne) ∙ r.row k d h)
      (cases_eq k n);
}

keeps_refl : (table : List Row) → KeepsRoom table table
keeps_refl table = record { long = refl; row = λ k d h. refl }

has_now : (k : ℕ) (ss : List Numbered) (s : Numbered) → is_local s.symbol.binding ≡ false → k ≡ s.name
    → has_name k (ss ++ s ∷ []) ≡ true
has_now k ss s vis same = named_now k ss s true (named_yes k s vis (sym same))

has_same : (k : ℕ) (ss : List Numbered) (s : Numbered) → k ≢ s.name → has_name k (ss ++ s ∷ []) ≡ has_name k ss
has_same k ss s n = named_now k ss s false (named_no k s (λ q. n (sym q)))

pub marked_start : (key : ℕ) (table : List Row) → AllMarkedLast key [] table table
marked_start key table = record {
  room = keeps_refl table;
  same = λ k d h. refl;
  done = λ k d h e. absurd (false≢true e);
  rest = λ k d h e. refl;
}

pub marked_step : (key : ℕ) (ss : List Numbered) (s : Numbered) (old mid : List Row) (v l : Row)
    → is_local s.symbol.binding ≡ false → s.name < length mid → v ≡ get_or mid s.name v → MarksLast key v l
    → AllMarkedLast key ss old mid → AllMarkedLast key (ss ++ s ∷ []) old (set mid s.name l)
marked_step key ss s old mid v l vis w i g r = record {
  room = keeps_set s.name old mid v l w i g.room r.room;
  same = λ k d h. ⊎_elim
      (λ same. ap (λ (x : Row). others key x.items) (set_here mid s.name k l d w same) ∙ g.same
      ∙ ap (λ (x : Row). others key x.items) (sym (was_here mid s.name k v d (omega (arith, r.room.long)) same i))
      ∙ r.same k d h)
      (λ n. ap (λ (x : Row). others key x.items) (get_or-set_other mid s.name k l d n) ∙ r.same k d h)
      (cases_eq k s.name);
  done = λ k d h e. ⊎_elim
      (λ same. subst (λ (x : Row). IsMarkedLast key x.items) (sym (set_here mid s.name k l d w same)) g.done)
      (λ n. subst (λ (x : Row). IsMarkedLast key x.items) (sym (get_or-set_other mid s.name k l d n))
      (r.done k d h (sym (has_same k ss s n) ∙ e)))
      (cases_eq k s.name);
  rest = λ k d h e. ⊎_elim
      (λ same. absurd (false≢true (sym e ∙ has_now k ss s vis same)))
      (λ n. ap (λ (x : Row). x.items) (get_or-set_other mid s.name k l d n)
      ∙ r.rest k d h (sym (has_same k ss s n) ∙ e))
      (cases_eq k s.name);
}

-- a local symbol has no row
pub marked_local : (key : ℕ) (ss : List Numbered) (s : Numbered) (old new : List Row)
    → is_local s.symbol.binding ≡ true → AllMarkedLast key ss old new → AllMarkedLast key (ss ++ s ∷ []) old new
marked_local key ss s old new h r = record {
  room = r.room;
  same = r.same;
  done = λ k d l e. r.done k d l (sym (named_now k ss s false (named_local k s h)) ∙ e);
  rest = λ k d l e. r.rest k d l (sym (named_now k ss s false (named_local k s h)) ∙ e);
}

-- the declaration at the end shows that a row is done
pub marked : (key : ℕ) (s : Numbered) (old : List Declared) (v l : Row) → v.items ≡ old
    → l.items ≡ others key old ++ declared key s ∷ [] → vec_capacity l ≡ vec_capacity v → MarksLast key v l
marked key s old v l e i c = record {
  same = ap (others key) i ∙ others-append key (others key old) (declared key s ∷ [])
      ∙ ap (λ b. others key (others key old) ++ cond (not b) (declared key s ∷ []) []) (eq-eqb key key refl)
      ∙ append-nil _ ∙ others_twice key old ∙ ap (others key) (sym e);
  done = inl (ap (ends_in key) i ∙ ends_pushed key (others key old) s);
  room = c;
}
  where
    ends_pushed : (key : ℕ) (ds : List Declared) (s : Numbered) → ends_in key (ds ++ declared key s ∷ []) ≡ true
    ends_pushed key ds s =
        let len = length-append ds (declared key s ∷ []) in
        let n : ℕ = length (ds ++ declared key s ∷ []) - 1 in
        let e : n - length ds ≡ 0 = omega (arith, len) in
        ap (is_of key) (slice_get-get_or (ds ++ declared key s ∷ []) n (declared key s) (omega (arith, len))
        ∙ ap Some (get_or-append_right ds (declared key s ∷ []) (length ds) n (declared key s) refl (omega (arith, len))
        ∙ ap (λ m. get_or (declared key s ∷ []) m (declared key s)) e))
        ∙ eq-eqb key key refl

-- a row without the declarations of the key
pub unmarked : (key : ℕ) (v l : Row) → l.items ≡ others key v.items → vec_capacity l ≡ vec_capacity v
    → MarksLast key v l
unmarked key v l i c = record {
  same = ap (others key) i ∙ others_twice key v.items;
  done = inr (ap (others key) i ∙ others_twice key v.items ∙ sym i);
  room = c;
}

pub as_it_was : (key : ℕ) (v : Row) → ends_in key v.items ≡ true → MarksLast key v v
as_it_was key v e = record { same = refl; done = inl e; room = refl }

pub marked_stays : (key : ℕ) (ds : List Declared) → IsMarkedLast key ds → ends_in key ds ≡ false → ds ≡ others key ds
marked_stays key ds (inl e) h = absurd (false≢true (sym h ∙ e))
marked_stays key ds (inr e) h = sym e

pub cleared_start : (key : ℕ) (table : List Row) → ClearedWhere key [] table table
cleared_start key table = record { room = keeps_refl table; row = λ k d h g. refl }

marked_cleared : (key : ℕ) (b : Bool) (ds : List Declared) → IsMarkedLast key ds → IsMarkedLast key (cleared key b ds)
marked_cleared key true ds g = inr (others_twice key ds)
marked_cleared key false ds g = g

pub cleared_step : (key : ℕ) (ss : List Numbered) (s : Numbered) (old mid : List Row) (v l : Row)
    → is_local s.symbol.binding ≡ false → s.name < length mid → v ≡ get_or mid s.name v
    → (IsMarkedLast key v.items → l.items ≡ others key v.items) → vec_capacity l ≡ vec_capacity v
    → ClearedWhere key ss old mid → ClearedWhere key (ss ++ s ∷ []) old (set mid s.name l)
cleared_step key ss s old mid v l vis w i p c r = record {
  room = keeps_set s.name old mid v l w i c r.room;
  row = λ k d h g. ⊎_elim
      (λ same.
      let ds : List Declared = (get_or old k d).items in
      let now : has_name k (ss ++ s ∷ []) ≡ true = has_now k ss s vis same in
      let was : v.items ≡ cleared key (has_name k ss) ds =
      ap (λ (x : Row). x.items) (sym (was_here mid s.name k v d (omega (arith, r.room.long)) same i))
      ∙ r.row k d h (λ e. g now) in
      ap (λ (x : Row). x.items) (set_here mid s.name k l d w same)
      ∙ p (subst (IsMarkedLast key) (sym was) (marked_cleared key (has_name k ss) ds (g now)))
      ∙ ap (others key) was ∙ others_cleared key (has_name k ss) ds
      ∙ ap (λ b. cleared key b ds) (sym now))
      (λ n. ap (λ (x : Row). x.items) (get_or-set_other mid s.name k l d n)
      ∙ r.row k d h (λ e. g (has_same k ss s n ∙ e))
      ∙ ap (λ b. cleared key b (get_or old k d).items) (sym (has_same k ss s n)))
      (cases_eq k s.name);
}

-- a local symbol clears nothing
pub cleared_local : (key : ℕ) (ss : List Numbered) (s : Numbered) (old new : List Row)
    → is_local s.symbol.binding ≡ true → ClearedWhere key ss old new → ClearedWhere key (ss ++ s ∷ []) old new
cleared_local key ss s old new h r = record {
  room = r.room;
  row = λ k d l g.
      let e : has_name k (ss ++ s ∷ []) ≡ has_name k ss = named_now k ss s false (named_local k s h) in
      r.row k d l (λ q. g (e ∙ q)) ∙ ap (λ b. cleared key b (get_or old k d).items) (sym e);
}

pub keeps_both : (old mid new : List Row) → KeepsRoom old mid → KeepsRoom mid new → KeepsRoom old new
keeps_both old mid new a b = record {
  long = b.long ∙ a.long;
  row = λ k d h. b.row k d (omega (arith, a.long)) ∙ a.row k d h;
}

-- rows that were marked and then cleared have lost the declarations of the key
pub cleared_all : (key : ℕ) (ss : List Numbered) (old mid new : List Row) → AllMarkedLast key ss old mid
    → ClearedWhere key ss mid new → Cleared key ss old new
cleared_all key ss old mid new a r = record {
  room = keeps_both old mid new a.room r.room;
  row = λ k d h. r.row k d (omega (arith, a.room.long)) (a.done k d h) ∙ go k d h (has_name k ss) refl;
}
  where
    go : (k : ℕ) (d : Row) → k < length old → (b : Bool) → has_name k ss ≡ b → cleared key b (get_or mid k d).items
        ≡ cleared key b (get_or old k d).items
    go k d h true e = a.same k d h
    go k d h false e = a.rest k d h e

pub cleared_end : (key : ℕ) (ss : List Numbered) (old new : List (Vec Declared Global)) → Cleared key ss old new
    → (os : List Entered) → HasSymbols key ss os → IsTable old os → IsTable new (without key os)
cleared_end key ss old new r os h t = record {
  row = λ k d l. let l' : k < length old = omega (arith, r.room.long) in
      r.row k d l' ∙ ap (cleared key (has_name k ss)) (t.row k d l') ∙ go k (has_name k ss) refl
      ∙ sym (entries_without key k os);
}
  where
    go : (k : ℕ) (b : Bool) → has_name k ss ≡ b → cleared key b (entries k os) ≡ others key (entries k os)
    go k true e = refl
    go k false e = sym (not_named key k ss os e h)
