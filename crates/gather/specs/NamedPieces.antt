-- Pieces with the names of their sections.
use Rattle.std.specs.Prelude.{◌≡◌, ◌<◌, ◌++◌, ℕ, List, length, map, slice_index_or}
use Rattle.std.specs.List.{All}
use Rattle.std.proofs.Common.{Bor}
use Rattle.elfobj.specs.declared.section.SectionKind.TheVariants.{Progbits}
use Rattle.ldmodel.specs.Project.{Project}
use Rattle.ldmodel.specs.declared.rows.Piece as code
use Rattle.ldmodel.specs.declared.sections.Part.TheVariants.{InTable}
use Rattle.ldmodel_project.specs.ByPlace.{name_of_section}
use Rattle.gather.specs.declared.sorting.NamedPlace.{NamedPlace}

-- these names are those of the sections of the pieces
abbrev pub AreNames : Project → List code.Piece → List (Bor (List ℕ)) → Type 0
AreNames project xs names = map (λ (name : Bor (List ℕ)). name.now) names
    ≡ map (λ (x : code.Piece). name_of_section project x.section) xs

abbrev pub no_piece : code.Piece
no_piece = record {
  statement = record { 0 = 0 };
  section = record { object = record { 0 = 0 }; part = InTable (record { 0 = 0 }) };
  kind = Progbits;
  flags = 0;
  size = 0;
  alignment = 0;
}

-- the piece at the place
abbrev pub piece_at : List code.Piece → NamedPlace → code.Piece
piece_at xs x = slice_index_or xs x.place no_piece

abbrev pub pieces_at : List code.Piece → List NamedPlace → List code.Piece
pieces_at xs places = map (piece_at xs) places

-- the first names, each with its place, after a start
pub record AreOfNames (start : List ℕ) (names : List (Bor (List ℕ))) (count : ℕ) (places : List NamedPlace)
    : Type 0 where
  pub long : length places ≡ count
  pub place : (k : ℕ) (d : NamedPlace) → k < count → (slice_index_or places k d).place ≡ k
  pub name : (k : ℕ) (d : NamedPlace) (e : Bor (List ℕ)) → k < count
      → start ++ (slice_index_or places k d).name ≡ (slice_index_or names k e).now

-- the name beside a place is that of the section of the piece there, after a start
pub record HasName (project : Project) (start : List ℕ) (xs : List code.Piece) (x : NamedPlace) : Type 0 where
  pub within : x.place < length xs
  pub name : start ++ x.name ≡ name_of_section project (piece_at xs x).section

-- the places of these pieces, each with the name of its section after a start
pub record AreNamed (project : Project) (start : List ℕ) (xs : List code.Piece) (places : List NamedPlace)
    : Type 0 where
  pub pieces : pieces_at xs places ≡ xs
  pub names : All (HasName project start xs) places
