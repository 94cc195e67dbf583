-- Places of pieces with the names of their sections, after what all names begin with.
use Rattle.gather.proofs.Common.{Bor, List, NamedPlace, Project, [], ap, arith, ext_get_or, get_or, get_or-map, length}
use Rattle.gather.proofs.Common.{length-map, name_of_section, subst, sym, ℕ, ◌<◌, ◌∙◌, ◌≡◌}
use Rattle.ldmodel.specs.declared.rows.Piece as code
use Rattle.gather.specs.NamedPieces.{AreNamed, AreNames, AreOfNames, no_piece, piece_at, pieces_at}

name_of : (p : Project) (xs : List code.Piece) (names : List (Bor (List ℕ))) (k : ℕ) (d : code.Piece)
    (e : Bor (List ℕ)) → AreNames p xs names → k < length xs → k < length names
    → (get_or names k e).now ≡ name_of_section p (get_or xs k d).section
name_of p xs names k d e are l m =
    sym (get_or-map (λ (name : Bor (List ℕ)). name.now) names k e [] m) ∙ ap (λ l. get_or l k []) are
    ∙ get_or-map (λ (x : code.Piece). name_of_section p x.section) xs k d [] l

pub as_many : (p : Project) (xs : List code.Piece) (names : List (Bor (List ℕ))) → AreNames p xs names
    → length names ≡ length xs
as_many p xs names are =
    sym (length-map names (λ (name : Bor (List ℕ)). name.now)) ∙ ap length are
    ∙ length-map xs (λ (x : code.Piece). name_of_section p x.section)

-- the places of the names of pieces are those of the pieces
pub named : (p : Project) (start : List ℕ) (xs : List code.Piece) (names : List (Bor (List ℕ)))
    (places : List NamedPlace) → AreNames p xs names → AreOfNames start names (length names) places
    → AreNamed p start xs places
named p start xs names places are of_names =
    let count = as_many p xs names are in
    let none : NamedPlace = record { name = []; place = 0 } in
    let nothing : Bor (List ℕ) = record { ref_ptr = (0, 0); now = [] } in
    record {
      pieces = ext_get_or no_piece (pieces_at xs places) xs
          (length-map places (piece_at xs) ∙ of_names.long ∙ count)
          (λ k l.
          let n : k < length places = omega (arith, l, length-map places (piece_at xs)) in
          let m : k < length names = omega (arith, n, of_names.long) in
          get_or-map (piece_at xs) places k none no_piece n
          ∙ ap (λ j. get_or xs j no_piece) (of_names.place k none m));
      names = λ k d l.
          let m : k < length names = omega (arith, l, of_names.long) in
          let n : k < length xs = omega (arith, m, count) in
          record {
            within = subst (λ j. j < length xs) (sym (of_names.place k d m)) n;
            name = of_names.name k d nothing m ∙ name_of p xs names k no_piece nothing are n m
                ∙ ap (λ j. name_of_section p (get_or xs j no_piece).section) (sym (of_names.place k d m));
          };
    }
