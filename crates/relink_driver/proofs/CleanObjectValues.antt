-- Objects whose symbols have the values that they had in a previous link.
use Rattle.relink_driver.proofs.Common.{AreDirtyObjects, AreSymbolValues, Bool, GoodLink, IfSome, IsPreviousOf, Layout}
use Rattle.relink_driver.proofs.Common.{List, NamedObject, NamedSymbol, None, Option, PreviousState, Project, Some}
use Rattle.relink_driver.proofs.Common.{SymbolValues, [], ap, arith, cases_lt, drop, false, get_or-drop, get_or-take}
use Rattle.relink_driver.proofs.Common.{inl, inr, last_place, length, length-append, option_map_or, referenced_value}
use Rattle.relink_driver.proofs.Common.{refl, row_at, slice_get, slice_get_within, slice_index_or, subst, suc, sym}
use Rattle.relink_driver.proofs.Common.{true, value_at, value_of, zero, ℕ, ◌++◌, ◌+◌, ◌<◌, ◌∙◌, ◌∷◌, ◌≡◌, ◌≤◌, ◌⊎◌}
use Rattle.ldmodel.specs.Relocations.{site_symbol}
use Rattle.ldmodel.specs.SymbolValues as model
use Rattle.relink_driver.specs.CleanObjects.{IsCleanObject}
use Rattle.emit.specs.relocate.declared.value.SymbolValue.TheVariants.{NotDefined}

-- a row has the values of the symbols of its object
in_row : (t : SymbolValues) (place count n : ℕ) → n < count
    → slice_index_or (row_at t place count) n NotDefined ≡ value_at t place n
in_row t place count n l =
    get_or-take count (drop (slice_index_or t.starts.items place 0) t.values.items) n NotDefined l
    ∙ get_or-drop (slice_index_or t.starts.items place 0) t.values.items n NotDefined

-- an object whose row is that of the previous link
pub unmarked_by_rows : (x : PreviousState) (symbols : SymbolValues) (place from count : ℕ)
    → last_place x (record { 0 = place }) ≡ Some from
    → ((n : ℕ) → slice_index_or (row_at x.snapshot.symbols from count) n NotDefined
    ≡ slice_index_or (row_at symbols place count) n NotDefined) → IsCleanObject (Some x) symbols place count
unmarked_by_rows x symbols place from count at same =
    (from, at, λ n l. sym (in_row x.snapshot.symbols from count n l) ∙ (same n ∙ in_row symbols place count n l))

-- the marks of the first objects
pub record MarksSoFar (previous : Option PreviousState) (symbols : SymbolValues) (objects : List NamedObject) (n : ℕ)
    (dirty : List Bool) : Type 0 where
  pub long : length dirty ≡ n
  pub unmarked : (i : ℕ) (o : NamedObject) → slice_index_or dirty i true ≡ false → slice_get objects i ≡ Some o
      → IsCleanObject previous symbols i (length o.object.symbols)

pub no_marks : (previous : Option PreviousState) (symbols : SymbolValues) (objects : List NamedObject)
    → MarksSoFar previous symbols objects 0 []
no_marks previous symbols objects = record {
  long = refl;
  unmarked = λ i o e at. absurd (let none : ⊥ = cc in none);
}

index_before : (xs : List Bool) (y : Bool) (k : ℕ) → k < length xs
    → slice_index_or (xs ++ y ∷ []) k true ≡ slice_index_or xs k true
index_before [] y k l = absurd (omega (arith, l))
index_before (x ∷ xs) y zero l = refl
index_before (x ∷ xs) y (suc k) l = index_before xs y k (omega (arith, l))

index_last : (xs : List Bool) (y : Bool) (k : ℕ) → k ≡ length xs → slice_index_or (xs ++ y ∷ []) k true ≡ y
index_last [] y zero e = refl
index_last [] y (suc k) e = absurd (omega (arith, e))
index_last (x ∷ xs) y zero e = absurd (omega (arith, e))
index_last (x ∷ xs) y (suc k) e = index_last xs y k (omega (arith, e))

index_past : (xs : List Bool) (y : Bool) (k : ℕ) → length xs < k → slice_index_or (xs ++ y ∷ []) k true ≡ true
index_past [] y zero l = absurd (omega (arith, l))
index_past [] y (suc k) l = refl
index_past (x ∷ xs) y zero l = absurd (omega (arith, l))
index_past (x ∷ xs) y (suc k) l = index_past xs y k (omega (arith, l))

pub one_mark_more : (previous : Option PreviousState) (symbols : SymbolValues) (objects : List NamedObject) (n : ℕ)
    (dirty now : List Bool) (dirty_bit : Bool) (count : ℕ) → now ≡ dirty ++ dirty_bit ∷ []
    → ((o : NamedObject) → slice_get objects n ≡ Some o → length o.object.symbols ≡ count)
    → (dirty_bit ≡ false → IsCleanObject previous symbols n count)
    → MarksSoFar previous symbols objects n dirty → MarksSoFar previous symbols objects (n + 1) now
one_mark_more previous symbols objects n dirty now dirty_bit count is counted one so_far =
    subst (MarksSoFar previous symbols objects (n + 1)) (sym is) (record {
      long = (let more = length-append dirty (dirty_bit ∷ []) in omega (arith, more, so_far.long));
      unmarked = λ i o e at. go i o e at (cases_lt i n);
    })
  where
    go : (i : ℕ) (o : NamedObject) → slice_index_or (dirty ++ dirty_bit ∷ []) i true ≡ false
        → slice_get objects i ≡ Some o → (i < n) ⊎ (n ≤ i) → IsCleanObject previous symbols i (length o.object.symbols)
    go i o e at (inl h) =
        so_far.unmarked i o (sym (index_before dirty dirty_bit i (omega (arith, h, so_far.long))) ∙ e) at
    go i o e at (inr h) = last_or_past (cases_lt n i)
      where
        last_or_past : (n < i) ⊎ (i ≤ n) → IsCleanObject previous symbols i (length o.object.symbols)
        last_or_past (inl past) = absurd (
            let some : true ≡ false = sym (index_past dirty dirty_bit i (omega (arith, past, so_far.long))) ∙ e in
            let none : ⊥ = cc in
            none)
        last_or_past (inr most) =
            let same : n ≡ i = omega (arith, h, most) in
            let unmarked : dirty_bit ≡ false =
            sym (index_last dirty dirty_bit i (omega (arith, same, so_far.long))) ∙ e in
            let many : length o.object.symbols ≡ count = counted o (ap (slice_get objects) same ∙ at) in
            subst (λ k. IsCleanObject previous symbols k (length o.object.symbols)) same
            (subst (IsCleanObject previous symbols n) (sym many) (one unmarked))

-- what the symbol of a site is worth, if it names one
abbrev pub worth_in : Project → Layout → NamedObject → Option NamedSymbol → model.SymbolValue
worth_in p s o x = option_map_or (referenced_value p s o) x model.NotDefined

module _ (old : GoodLink) (p : Project) (s : Layout) (x : PreviousState) (is : IsPreviousOf old p x)
    (symbols : SymbolValues)
    (values : AreSymbolValues p s symbols) where
  one_site : (i : ℕ) (o : NamedObject) → slice_get p.objects i ≡ Some o
      → IsCleanObject (Some x) symbols i (length o.object.symbols) → (k : ℕ) (v : Option NamedSymbol)
      → slice_get o.object.symbols k ≡ v → worth_in old.project old.layout o v ≡ worth_in p s o v
  one_site i o at unmarked k None e = refl
  one_site i o at unmarked k (Some v) e =
      let before : slice_get old.project.objects unmarked.0 ≡ Some o =
      sym (is.origins.same i unmarked.0 unmarked.1) ∙ at in
      sym (is.table.symbols unmarked.0 k o v before e)
      ∙ ap value_of (unmarked.2 k (slice_get_within o.object.symbols k v e)) ∙ values i k o v at e

  are_marks_of : (dirty : List Bool) (n : ℕ) → MarksSoFar (Some x) symbols p.objects n dirty
      → AreDirtyObjects old p s dirty
  are_marks_of dirty n so_far i t e at =
      one_site i t.object at (so_far.unmarked i t.object e at) t.relocation.symbol.0 (site_symbol t) refl

pub are_marks : (old : GoodLink) (p : Project) (s : Layout) (previous : Option PreviousState) (symbols : SymbolValues)
    (objects : List NamedObject) (dirty : List Bool) (n : ℕ) → objects ≡ p.objects
    → MarksSoFar previous symbols objects n dirty → IfSome previous (IsPreviousOf old p) → AreSymbolValues p s symbols
    → AreDirtyObjects old p s dirty
are_marks old p s None symbols objects dirty n same so_far is values = λ i t e at.
    absurd (so_far.unmarked i t.object e (ap (λ (os : List NamedObject). slice_get os i) same ∙ at))
are_marks old p s (Some x) symbols objects dirty n same so_far is values =
    are_marks_of old p s x is symbols values dirty n
    (subst (λ (os : List NamedObject). MarksSoFar (Some x) symbols os n dirty) same so_far)
