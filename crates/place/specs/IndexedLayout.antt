-- Where everything of a link stands.
use Rattle.std.specs.Prelude.{◌≡◌, ℕ, Option, Some, None, position, slice_index_or, option_and_then}
use Rattle.std.specs.List.{list_any}
use Rattle.std.specs.Option.{option_map}
use Rattle.ldmodel.specs.Layout.{Layout, PlacedPiece, PlacedOutput}
use Rattle.ldmodel.specs.NameFaults.{object_name}
use Rattle.ldmodel.specs.Project.{Project}
use Rattle.ldmodel.specs.SymbolValues.{is_part, placed_part}
use Rattle.elfobj.specs.declared.section.SectionIndex.{SectionIndex}
use Rattle.ldmodel.specs.declared.names.ObjectPlace.{ObjectPlace}
use Rattle.ldmodel.specs.declared.sections.Part.{Part}
use Rattle.ldmodel.specs.declared.sections.Part.TheVariants.{InTable}
use Rattle.ldmodel.specs.declared.sections.SectionRef.{SectionRef}
use Rattle.place.specs.InPlace.{AreInPlace}
use Rattle.place.specs.LinkLayout.{IsLinkLayout}
pub use Rattle.gather.specs.Slots.{linked_in}
pub use Rattle.gather.specs.SectionTable.{linked_of}
use Rattle.gather.specs.SectionTable.{IsTableOf, number_of}
use Rattle.ldmodel.specs.Rows as model
use Rattle.ldmodel_project.specs.ByPlace.{rows_in}
use Rattle.place.specs.declared.indexed_layout.SectionAddress.{SectionAddress}
use Rattle.place.specs.declared.indexed_layout.IndexedLayout.{IndexedLayout}

-- where an input section stands, how many bytes it takes, and the number of its output section
abbrev pub IsSectionAddress : Project → Layout → SectionRef → Option SectionAddress → Type 0
IsSectionAddress project layout k None = placed_part layout (object_name project k.object.0) k.part ≡ None
IsSectionAddress project layout k (Some x) =
    (option_map (λ (y : PlacedPiece). y.start) (placed_part layout (object_name project k.object.0) k.part)
    ≡ Some x.start)
    × (position (λ (output : PlacedOutput). list_any (is_part (object_name project k.object.0) k.part) output.pieces)
    layout.sections
    ≡ Some x.section.0)
    × (option_map (λ (y : PlacedPiece). y.piece.size) (placed_part layout (object_name project k.object.0) k.part)
    ≡ Some x.size)

-- what stands under a number
abbrev pub address_under : IndexedLayout → ℕ → Option SectionAddress
address_under x at = slice_index_or x.addresses.items at None

-- where a part of object number n stands
abbrev pub part_in : IndexedLayout → ℕ → Part → Option SectionAddress
part_in x n part = option_and_then (address_under x) (number_of x.table n part)

-- where an input section stands
abbrev pub address_in : IndexedLayout → SectionRef → Option SectionAddress
address_in x k = part_in x k.object.0 k.part

-- the key of a section of an object by its header number
abbrev pub table_key : ObjectPlace → SectionIndex → SectionRef
table_key object number = record { object = object; part = InTable number }

-- the numbers, the rows and the layout are those of the project, input sections are found where they stand, and each
-- stands once
pub record IsIndexedLayout (project : Project) (layout : Layout) (x : IndexedLayout) : Type 0 where
  pub table : IsTableOf project x.table
  pub rows : rows_in project x.rows.items ≡ model.rows project
  pub link_layout : IsLinkLayout project layout x.link_layout
  pub places : (k : SectionRef) → IsSectionAddress project layout k (address_in x k)
  pub apart : AreInPlace project layout
