-- The parts of all output sections, by the layout that they stand for.
use Rattle.place_sections.proofs.Common.{Ends, KeyedPiece, KeyedSection, List, Naming, PlacedOutput, PlacedPiece, []}
use Rattle.place_sections.proofs.Common.{all_data_in, ap, arith, counts_in, enumerate_from, flat_map, length}
use Rattle.place_sections.proofs.Common.{length-map, map, numbered, piece_at, placed_of, refl, section_of, starts_in}
use Rattle.place_sections.proofs.Common.{starts_of, suc, sym, zero, ℕ, ◌++◌, ◌+◌, ◌∙◌, ◌∷◌, ◌≡◌}
use Rattle.place_terms.specs.SectionTable.{Ends as KeyedEnds}
use Rattle.place_terms.specs.Wholes.{placed_in, data_in}

pub placed_whole : (n : Naming) (xs : List KeyedSection) → placed_in xs ≡ map placed_of (map (section_of n) xs)
placed_whole n [] = refl
placed_whole n (x ∷ xs) = ap (λ l. x.placed ∷ l) (placed_whole n xs)

pub counts_whole : (n : Naming) (xs : List KeyedSection) → counts_in xs
    ≡ map (λ (q : PlacedOutput). length q.pieces) (map (section_of n) xs)
counts_whole n [] = refl
counts_whole n (x ∷ xs) =
    ap (λ k. k ∷ counts_in xs) (sym (length-map x.pieces (piece_at n)))
    ∙ ap (λ l. length (map (piece_at n) x.pieces) ∷ l) (counts_whole n xs)

starts_whole_in : (n : Naming) (ps : List KeyedPiece) → map (λ (p : KeyedPiece). p.start) ps
    ≡ map (λ (p : PlacedPiece). p.start) (map (piece_at n) ps)
starts_whole_in n [] = refl
starts_whole_in n (p ∷ ps) = ap (λ l. p.start ∷ l) (starts_whole_in n ps)

pub starts_whole : (n : Naming) (xs : List KeyedSection) → starts_in xs ≡ flat_map starts_of (map (section_of n) xs)
starts_whole n [] = refl
starts_whole n (x ∷ xs) =
    ap (λ l. l ++ starts_in xs) (starts_whole_in n x.pieces)
    ∙ ap (λ l. starts_of (section_of n x) ++ l) (starts_whole n xs)

pub data_whole : (n : Naming) (k : ℕ) (xs : List KeyedSection) → all_data_in k xs
    ≡ flat_map numbered (enumerate_from k (map (section_of n) xs))
data_whole n k [] = refl
data_whole n k (x ∷ xs) = ap (λ l. data_in k x.data_commands ++ l) (data_whole n (k + 1) xs)

pub ends_whole : (xs : List KeyedSection) → KeyedEnds xs → Ends (placed_in xs)
ends_whole [] h k d l = absurd (omega arith)
ends_whole (x ∷ xs) h zero d l = h 0 x (omega arith)
ends_whole (x ∷ xs) h (suc k) d l = ends_whole xs (λ j e m. h (suc j) e (omega arith)) k d (omega arith)
