-- Where the input sections of a list of output sections start.
use Rattle.place_terms.proofs.Common.{KeyedPiece, KeyedSection, List, ap, append_assoc, drop, drop_more, get_or, length}
use Rattle.place_terms.proofs.Common.{map, starts_in, sym, ℕ, ◌++◌, ◌+◌, ◌<◌, ◌∙◌, ◌∷◌, ◌≡◌}

-- the starts of one more output section of a list
pub starts_more : {X : Type 0} (key : X → KeyedSection) (from : List X → List KeyedSection)
    → ((y : X) (ys : List X) → from (y ∷ ys) ≡ key y ∷ from ys)
    → (xs : List X) (i : ℕ) (x : X) (all old new : List ℕ) → i < length xs → x ≡ get_or xs i x
    → all ≡ old ++ starts_in (from (drop i xs)) → new ≡ old ++ map (λ (p : KeyedPiece). p.start) (key x).pieces
    → all ≡ new ++ starts_in (from (drop (i + 1) xs))
starts_more key from first xs i x all old new l at h e =
    let here : drop i xs ≡ x ∷ drop (i + 1) xs = drop_more xs i x l ∙ ap (λ y. y ∷ drop (i + 1) xs) (sym at) in
    h ∙ (ap (λ ys. old ++ starts_in ys) (ap from here ∙ first x (drop (i + 1) xs))
    ∙ (sym (append_assoc old (map (λ (p : KeyedPiece). p.start) (key x).pieces) (starts_in (from (drop (i + 1) xs))))
    ∙ ap (λ ys. ys ++ starts_in (from (drop (i + 1) xs))) (sym e)))
