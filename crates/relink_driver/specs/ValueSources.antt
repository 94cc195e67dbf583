-- What the values of symbols are read from.
use Rattle.std.specs.Prelude.{◌≡◌, ℕ, List, None, Option, Some, false, slice_get, slice_index_or}
use Rattle.elfobj.specs.Symbols.{NamedSymbol}
use Rattle.elfobj.specs.declared.section.SectionIndex.{SectionIndex}
use Rattle.ldmodel.specs.Names.{is_local}
use Rattle.ldmodel.specs.declared.names.ObjectPlace.{ObjectPlace}
use Rattle.symres.specs.SymbolTable.{IsSeenAt, IsSymbolTable, SymbolTableState}
use Rattle.place.specs.IndexedLayout.{IsIndexedLayout, IsSectionAddress, table_key}
use Rattle.place.specs.declared.indexed_layout.SectionAddress.{SectionAddress}
use Rattle.emit.specs.relocate.KnownLink.{AreNameValues, KnownLink}
use Rattle.emit.specs.relocate.LinkView.{known_link}
use Rattle.relink_driver.specs.declared.symbol_values.ValueSources.{ValueSources}

-- they are those of a link: the keys of names, the addresses of input sections, and the values of names
pub record AreValueSources (l : KnownLink) (s : ValueSources) : Type 0 where
  pub link : l ≡ known_link l.project l.layout s.symbol_table.now
  pub symbol_table : IsSymbolTable l.project s.symbol_table.now
  pub indexed_layout : IsIndexedLayout l.project l.layout s.indexed_layout.now
  pub names : AreNameValues l s.names.now

-- the addresses are those of the sections of an object, under their header numbers
abbrev pub AreAddressesOf : KnownLink → ObjectPlace → List (Option SectionAddress) → Type 0
AreAddressesOf l key addresses =
    (number : SectionIndex)
    → IsSectionAddress l.project l.layout (table_key key number) (slice_index_or addresses number.0 None)

-- a table has keys for the symbols of the object at a place that aren't local
abbrev pub AreSeenIn : SymbolTableState → ObjectPlace → List NamedSymbol → Type 0
AreSeenIn table place symbols =
    (n : ℕ) (x : NamedSymbol) → slice_get symbols n ≡ Some x → is_local x.symbol.binding ≡ false
    → IsSeenAt table.objects place.0 n
