-- Which input sections stand in which output section, and in which order (GNU ld manual, "Input Section Basics", "Input
-- Section Wildcard Patterns"): statement by statement the live sections that the statement takes, in object order and
-- then section order; SORT_BY_NAME orders those of one statement by their names, byte by byte, SORT_BY_ALIGNMENT by
-- alignment, the greatest first. One statement with several words takes its sections together, and a sort orders them
-- together; the latter is this project's extension.
use Rattle.std.specs.Prelude.{ℕ, List, [], length, map, filter, flat_map, Option, Some, None, Bool, false, ◌==◌, max}
use Rattle.std.specs.Prelude.{nat_lt, if◌then◌else◌}
use Rattle.std.specs.Cmp.Lexicographic.{slice_cmp}
use Rattle.std.specs.List.{enumerate_from, range_with_len}
use Rattle.std.specs.Option.{option_map_or}
use Rattle.std.specs.Ordering.{is_lt, nat_cmp}
use Rattle.elfobj.specs.declared.section.SectionKind.{SectionKind}
use Rattle.ldscript.specs.statements.Numbering.{InputStatementAt, input_statements, output_sections}
use Rattle.ldscript.specs.statements.declared.input.Sort.{Sort}
use Rattle.ldscript.specs.statements.declared.input.Sort.TheVariants.{ByName, ByAlignment}
use Rattle.ldscript.specs.statements.declared.place.InputPlace.{InputPlace}
use Rattle.ldscript.specs.statements.declared.place.InputPlace.TheVariants.{InSection, InDiscard}
use Rattle.ldmodel.specs.FirstMatch.{first_match}
use Rattle.ldmodel.specs.Live.{live}
use Rattle.ldmodel.specs.Project.{Project}
use Rattle.ldmodel.specs.Sections.{InputSection}
use Rattle.ldmodel.specs.Sorting.{sort_by}
use Rattle.ldmodel.specs.declared.sections.Part.{Part}

-- an entry of a row: the number of the input statement, the name of the object, which part of it the input section is,
-- and of that its name, kind, sh_flags, size and sh_addralign as they are in the object: entries with 0 and 1 for the
-- last differ, though both are placed alike (`piece_alignment`). It has no bytes and no relocations
pub record Piece : Type 0 where
  pub statement : ℕ
  pub object : List ℕ
  pub part : Part
  pub name : List ℕ
  pub kind : SectionKind
  pub flags : ℕ
  pub size : ℕ
  pub alignment : ℕ

abbrev pub piece_of : ℕ → InputSection → Piece
piece_of n section = record {
  statement = n;
  object = section.object;
  part = section.id.part;
  name = section.name;
  kind = section.kind;
  flags = section.flags;
  size = section.size;
  alignment = section.alignment;
}

abbrev pub is_taken_by : Project → ℕ → InputSection → Bool
is_taken_by project n section =
    option_map_or (λ number. number == n) (first_match project.script section.object section.name) false

-- the live sections that input statement number n takes
abbrev pub taken : Project → ℕ → List Piece
taken project n = map (piece_of n) (filter (is_taken_by project n) (live project))

-- the alignment of a piece: 0 counts as 1
abbrev pub piece_alignment : Piece → ℕ
piece_alignment piece = max 1 piece.alignment

-- which of two pieces a sort puts first
abbrev pub below : Option Sort → Piece → Piece → Bool
below None a b = false
below (Some ByName) a b = is_lt (slice_cmp nat_cmp a.name b.name)
below (Some ByAlignment) a b = nat_lt (piece_alignment b) (piece_alignment a)

abbrev pub is_in_section : ℕ → InputPlace → Bool
is_in_section number (InSection other) = other == number
is_in_section number InDiscard = false

-- the pieces of an input statement, in the order of its sort
abbrev pub sorted_pieces : Project → ℕ → InputStatementAt → List Piece
sorted_pieces project n statement = sort_by (below statement.input.sort) (taken project n)

-- those of an input statement, with its number, where it stands in output section number k
abbrev pub pieces_in : Project → ℕ → ℕ × InputStatementAt → List Piece
pieces_in project k numbered =
    if is_in_section k numbered.1.place then sorted_pieces project numbered.0 numbered.1 else []

-- the row of output section number k, statement by statement
abbrev pub row : Project → ℕ → List Piece
row project k = flat_map (pieces_in project k) (enumerate_from 0 (input_statements project.script))

-- one row for each output section, in script order; /DISCARD/ has none
unfoldable pub rows : Project → List (List Piece)
rows project = map (row project) (range_with_len 0 (length (output_sections project.script)))
