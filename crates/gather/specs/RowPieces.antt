-- What rows are made of, and what they are.
use Rattle.std.specs.Prelude.{ℕ, ◌≡◌, ◌<◌, ◌==◌, List, [], ◌++◌, length, map, filter, Option, if◌then◌else◌}
use Rattle.std.specs.Prelude.{slice_index_or}
use Rattle.std.proofs.Common.{Vec, Global}
use Rattle.std.specs.Option.{option_map}
use Rattle.ldscript.specs.statements.Numbering.{InputStatementAt}
use Rattle.ldscript.specs.statements.declared.input.Sort.{Sort}
use Rattle.ldscript.specs.statements.declared.place.InputPlace.{InputPlace}
use Rattle.ldmodel.specs.FirstMatch.{first_match}
use Rattle.ldmodel.specs.Project.{Project}
use Rattle.ldmodel.specs.Rows.{Piece, piece_of, below, is_in_section}
use Rattle.ldmodel.specs.Sections.{InputSection}
use Rattle.ldmodel.specs.Sorting.{sort_by}
use Rattle.ldmodel.specs.declared.rows.Piece as code
use Rattle.ldmodel_project.specs.ByPlace.{piece_in}

-- the pieces that a row of the code stands for
abbrev pub shown_row : Project → Vec code.Piece Global → List Piece
shown_row project row = map (piece_in project) row.items

-- an input section as the piece of the statement that takes it
abbrev pub taken_piece : Project → InputSection → Option Piece
taken_piece project section =
    option_map (λ n. piece_of n section) (first_match project.script section.object section.name)

-- those of a statement
abbrev pub of_statement : List code.Piece → ℕ → List code.Piece
of_statement xs k = filter (λ (x : code.Piece). x.statement.0 == k) xs

-- this number of lists of nothing
pub record AreEmpty (count : ℕ) (lists : List (Vec code.Piece Global)) : Type 0 where
  pub long : length lists ≡ count
  pub each : (k : ℕ) (d : Vec code.Piece Global) → k < count → (slice_index_or lists k d).items ≡ []

-- a list for each statement
pub record AreBuckets (xs : List code.Piece) (count : ℕ) (buckets : List (Vec code.Piece Global)) : Type 0 where
  pub long : length buckets ≡ count
  pub bucket : (k : ℕ) (d : Vec code.Piece Global) → k < count → (slice_index_or buckets k d).items ≡ of_statement xs k

-- a list is put in the order of a sort
abbrev pub Orders : Project → Option Sort → (old new : List code.Piece) → Type 0
Orders project sort old new = map (piece_in project) new ≡ sort_by (below sort) (map (piece_in project) old)

-- the pieces of a statement come to the end of the row of its output section
pub record AddsTo (project : Project) (place : InputPlace) (sort : Option Sort) (xs : List code.Piece)
    (old new : List (Vec code.Piece Global)) : Type 0 where
  pub long : length new ≡ length old
  pub row : (k : ℕ) (d : Vec code.Piece Global) → k < length old → shown_row project (slice_index_or new k d)
      ≡ shown_row project (slice_index_or old k d)
      ++ (if is_in_section k place then sort_by (below sort) (map (piece_in project) xs) else [])

-- what an input statement of this number brings to the row of output section number k
abbrev pub pieces_at : Project → List code.Piece → (k : ℕ) → ℕ × InputStatementAt → List Piece
pieces_at project xs k i =
    if is_in_section k i.1.place then sort_by (below i.1.input.sort)
    (filter (λ (y : Piece). y.statement == i.0) (map (piece_in project) xs)) else []
