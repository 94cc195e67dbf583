-- Objects as the look-ups of their symbols need them.
use Rattle.emit_relocate.proofs.Common.{AreAddresses, Case, IsSectionAddress, Layout, List, NamedObject, NamedSymbol}
use Rattle.emit_relocate.proofs.Common.{ObjectData, ObjectPlace, Option, Project, SectionIndex, Some, Symbol, [], ap}
use Rattle.emit_relocate.proofs.Common.{decision_of, inl, inr, length, map, option_and_then, option_map, refl}
use Rattle.emit_relocate.proofs.Common.{same_Some, script_value, slice_get, slice_get-map, slice_index_or, subst, suc}
use Rattle.emit_relocate.proofs.Common.{sym, table_key, value_or_undefined, zero, ℕ, ◌++◌, ◌∙◌, ◌∷◌, ◌≡◌, ◌⊎◌}
use Rattle.std.proofs.Common.{None}
use Rattle.ldmodel.specs.declared.names.Case.TheVariants as case
use Rattle.ldmodel.specs.declared.names.Entry as code_entry
use Rattle.place.specs.IndexedLayout.{IsIndexedLayout}
use Rattle.place.specs.declared.indexed_layout.IndexedLayout.{IndexedLayout}
use Rattle.place.specs.declared.indexed_layout.SectionAddress.{SectionAddress}
use Rattle.emit_relocate.specs.NameRows.{bare_row, decided_row, entry_row, shown_row}
use Rattle.emit_relocate.specs.ObjectTable.{AreObjects, IsObject}
use Rattle.emit_relocate.specs.declared.name_row.NameRow as code
use Rattle.emit_relocate.specs.declared.object_parts.ObjectParts.{ObjectParts}

abbrev symbol_of : NamedSymbol → Symbol
symbol_of x = x.symbol

-- the symbols of an object that is not there
pub no_symbols : (o : Option NamedObject) (n : ℕ) → None ≡ option_map (λ (x : NamedObject). x.object) o
    → None ≡ option_map symbol_of (option_and_then (λ (x : NamedObject). slice_get x.object.symbols n) o)
no_symbols None n e = refl
no_symbols (Some x) n e = absurd (cc)

-- those of one that is
pub symbols_are : (o : Option NamedObject) (d : ObjectData) (n : ℕ) (xs : List Symbol)
    → Some d ≡ option_map (λ (x : NamedObject). x.object) o → xs ≡ map symbol_of d.symbols
    → slice_get xs n ≡ option_map symbol_of (option_and_then (λ (x : NamedObject). slice_get x.object.symbols n) o)
symbols_are None d n xs e f = absurd (cc)
symbols_are (Some x) d n xs e f =
    ap (λ ys. slice_get ys n) f ∙ slice_get-map symbol_of d.symbols n
    ∙ ap (λ (b : ObjectData). option_map symbol_of (slice_get b.symbols n)) (same_Some _ _ e)

-- what is read of a section is its address
pub address_of : (p : Project) (s : Layout) (indexed : IndexedLayout) (x : ObjectParts) (number : SectionIndex)
    (read : Option SectionAddress) → IsIndexedLayout p s indexed → AreAddresses indexed x
    → read ≡ slice_index_or x.addresses.now number.0 None
    → IsSectionAddress p s (table_key x.place number) read
address_of p s indexed x number read starts are e =
    let key = table_key x.place number in
    subst (IsSectionAddress p s key) (sym (e ∙ are number)) (starts.places key)

-- an element of a list with one more at its end
in_longer : {X : Type 0} (xs : List X) (x : X) (n : ℕ) (y : X) → slice_get (xs ++ x ∷ []) n ≡ Some y
    → (slice_get xs n ≡ Some y) ⊎ ((n ≡ length xs) × (x ≡ y))
in_longer [] x zero y e = inr (refl, same_Some _ _ e)
in_longer [] x (suc n) y e = absurd (cc)
in_longer (z ∷ zs) x zero y e = inl e
in_longer (z ∷ zs) x (suc n) y e = elim (in_longer zs x n y e) [
  | inl h ↦ inl h
  | inr h ↦ inr (ap suc h.0, h.1)
]

-- one object more
pub objects_more : (p : Project) (indexed : IndexedLayout) (old new : List ObjectParts) (x : ObjectParts)
    → new ≡ old ++ x ∷ [] → IsObject p indexed (length old) x → AreObjects p indexed old → AreObjects p indexed new
objects_more p indexed old new x e last before n y at =
    elim (in_longer old x n y (ap (λ zs. slice_get zs n) (sym e) ∙ at)) [
      | inl h ↦ before n y h
      | inr h ↦ subst (λ z. IsObject p indexed n z) h.1 (subst (λ i. IsObject p indexed i x) (sym h.0) last)
    ]

module _ (p : Project) (s : Layout) (name : List ℕ) where
  -- what a name is that an entry of an object defines, strongly or weakly
  pub entry_decided : (k : Case ObjectPlace) (e : code_entry.Entry ObjectPlace) (parts : ObjectParts) (x : code.NameRow)
      → (k ≡ case.Strong e) ⊎ (k ≡ case.Weak e) → parts.place ≡ e.object
      → shown_row x ≡ entry_row p s (record { object = parts.place.0; symbol = e.symbol.0 })
      → shown_row x ≡ decided_row p s name (decision_of (λ key. key) k)
  entry_decided k e parts x (inl is) for h =
      h ∙ ap (λ (o : ObjectPlace). entry_row p s (record { object = o.0; symbol = e.symbol.0 })) for
      ∙ ap (λ (c : Case ObjectPlace). decided_row p s name (decision_of (λ key. key) c)) (sym is)
  entry_decided k e parts x (inr is) for h =
      h ∙ ap (λ (o : ObjectPlace). entry_row p s (record { object = o.0; symbol = e.symbol.0 })) for
      ∙ ap (λ (c : Case ObjectPlace). decided_row p s name (decision_of (λ key. key) c)) (sym is)

  -- what a name is that the script gives
  pub script_decided : (k : Case ObjectPlace) → (k ≡ case.Script) ⊎ (k ≡ case.Provided)
      → bare_row (value_or_undefined (script_value s name)) ≡ decided_row p s name (decision_of (λ key. key) k)
  script_decided k (inl is) = ap (λ (c : Case ObjectPlace). decided_row p s name (decision_of (λ key. key) c)) (sym is)
  script_decided k (inr is) = ap (λ (c : Case ObjectPlace). decided_row p s name (decision_of (λ key. key) c)) (sym is)
