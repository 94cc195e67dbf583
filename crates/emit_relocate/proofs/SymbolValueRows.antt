-- Rows of a table of the values of symbols.
use Rattle.emit_relocate.proofs.Common.{KnownLink, Layout, List, NamedObject, NamedSymbol, ObjectData, ObjectPlace}
use Rattle.emit_relocate.proofs.Common.{Option, Project, Some, Symbol, [], ap, arith, drop, get_or-drop, get_or-take}
use Rattle.emit_relocate.proofs.Common.{get_or_past, length, length-map, length-take, map, named_object, option_map_or}
use Rattle.emit_relocate.proofs.Common.{referenced_value, refl, slice_get, slice_get_within, slice_index_or, subst, suc}
use Rattle.emit_relocate.proofs.Common.{sym, take, zero, ℕ, ◌∙◌, ◌∷◌, ◌≡◌, ◌≤◌}
use Rattle.std.proofs.Common.{None}
use Rattle.ldmodel.specs.SymbolValues as model
use Rattle.emit_relocate.specs.SymbolValues.{AreValuesOf, HasSymbolValues, IsRow, row_at, value_at}
use Rattle.emit_relocate.specs.Values.{value_of}
use Rattle.emit_relocate.specs.declared.symbol_values.SymbolValues.{SymbolValues}
use Rattle.emit_relocate.specs.declared.value.SymbolValue as code
use Rattle.emit_relocate.specs.declared.value.SymbolValue.TheVariants.{NotDefined}

past : {X : Type 0} (xs : List X) (j : ℕ) → slice_get xs j ≡ None → length xs ≤ j
past [] j e = omega arith
past (x ∷ xs) zero e = absurd (let none : ⊥ = cc in none)
past (x ∷ xs) (suc j) e = omega (arith, past xs j e)

short : {X : Type 0} (n : ℕ) (xs : List X) → length (take n xs) ≤ n
short n xs = omega (arith, length-take n xs)

-- a row of a table has the values of the symbols of an object, whose values stand there
pub row_of : (p : Project) (layout : Layout) (t : SymbolValues) (i : ℕ) (o : NamedObject) (count : ℕ)
    (row : List code.SymbolValue)
    → ((j : ℕ) (x : NamedSymbol) → slice_get o.object.symbols j ≡ Some x
    → value_of (value_at t i j) ≡ referenced_value p layout o x)
    → length o.object.symbols ≡ count → row ≡ row_at t i count → AreValuesOf p layout o row
row_of p layout t i o count row worth many is j =
    subst (λ r. value_of (slice_index_or r j NotDefined)
    ≡ option_map_or (referenced_value p layout o) (slice_get o.object.symbols j) model.NotDefined) (sym is)
    (go (slice_get o.object.symbols j) refl)
  where
    go : (a : Option NamedSymbol) → slice_get o.object.symbols j ≡ a
        → value_of (slice_index_or (row_at t i count) j NotDefined)
        ≡ option_map_or (referenced_value p layout o) a model.NotDefined
    go None e =
        let tail = drop (slice_index_or t.starts.items i 0) t.values.items in
        let least = short count tail in
        let end = past o.object.symbols j e in
        ap value_of (get_or_past (take count tail) j NotDefined (omega (arith, least, end, many)))
    go (Some x) e =
        let tail = drop (slice_index_or t.starts.items i 0) t.values.items in
        let within = slice_get_within o.object.symbols j x e in
        ap value_of (get_or-take count tail j NotDefined (omega (arith, within, many))
        ∙ get_or-drop (slice_index_or t.starts.items i 0) t.values.items j NotDefined)
        ∙ worth j x e

-- the row of the object of a key has the values of the object's symbols
pub row_is : (l : KnownLink) (t : SymbolValues) (key : ObjectPlace) (o : NamedObject) (read : ObjectData)
    (symbols : List Symbol) (row : List code.SymbolValue) → HasSymbolValues l t → named_object l key ≡ Some o
    → o.object ≡ read → symbols ≡ map (λ (y : NamedSymbol). y.symbol) read.symbols
    → row ≡ row_at t key.0 (length symbols) → IsRow l o row
row_is l t key o read symbols row worth named same are is =
    row_of l.project l.layout t key.0 o (length symbols) row (λ j x e. worth key j o x named e) (sym many) is
  where
    many : length symbols ≡ length o.object.symbols
    many =
        ap length are ∙ length-map read.symbols (λ (y : NamedSymbol). y.symbol)
        ∙ ap (λ (r : ObjectData). length r.symbols) (sym same)
