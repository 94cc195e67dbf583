-- Input sections with their places.
use Rattle.std.specs.Prelude.{ℕ, ◌+◌, ◌&&◌, ◌==◌, List, [], ◌∷◌, ◌++◌, map, length, drop, Bool}
use Rattle.std.specs.List.{zip}
use Rattle.std.proofs.Common.{Vec, Global}
use Rattle.ldmodel.specs.Sections.{is_same_part}
use Rattle.ldmodel.specs.declared.rows.Piece.{Piece}
use Rattle.ldmodel.specs.declared.sections.Part.{Part}
use Rattle.place.specs.declared.indexed_section.IndexedSection.{IndexedSection}

-- whether an entry is this part of object number n
abbrev pub is_part_of : ℕ → Part → IndexedSection → Bool
is_part_of n part e = (e.object == n) && is_same_part e.part part

-- an entry of a row and the address that it starts at, in an output section
abbrev pub entry_of : ℕ → Piece × ℕ → IndexedSection
entry_of section x = record {
  object = x.0.section.object.0;
  part = x.0.section.part;
  address = record { start = x.1; size = x.0.size; section = record { 0 = section } };
}

abbrev pub row_entries : ℕ → List Piece → List ℕ → List IndexedSection
row_entries section row starts = map (entry_of section) (zip row starts)

-- those of all rows, the first of which is that of this output section
abbrev pub all_entries : ℕ → List (Vec Piece Global) → List ℕ → List IndexedSection
all_entries section [] starts = []
all_entries section (row ∷ rows) starts =
    row_entries section row.items starts ++ all_entries (section + 1) rows (drop (length row.items) starts)
