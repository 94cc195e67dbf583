-- Objects of a link as the look-ups of their symbols need them.
use Rattle.std.specs.Prelude.{◌≡◌, ℕ, None, slice_get, slice_index_or}
use Rattle.std.specs.Option.{option_map}
use Rattle.elfobj.specs.Symbols.{NamedSymbol}
use Rattle.elfobj.specs.declared.section.SectionIndex.{SectionIndex}
use Rattle.ldmodel.specs.Live.{symbol_at}
use Rattle.ldmodel.specs.Project.{Project}
use Rattle.place.specs.IndexedLayout.{address_in, table_key}
use Rattle.place.specs.declared.indexed_layout.IndexedLayout.{IndexedLayout}
use Rattle.emit_relocate.specs.declared.object_parts.ObjectParts.{ObjectParts}

-- the symbols are those of the object
abbrev pub AreSymbols : Project → ObjectParts → Type 0
AreSymbols project x =
    (n : ℕ) → slice_get x.symbols.now n
    ≡ option_map (λ (symbol : NamedSymbol). symbol.symbol) (symbol_at project x.place.0 n)

-- the addresses are those of its sections
abbrev pub AreAddresses : IndexedLayout → ObjectParts → Type 0
AreAddresses layout x =
    (number : SectionIndex) → slice_index_or x.addresses.now number.0 None
    ≡ address_in layout (table_key x.place number)
