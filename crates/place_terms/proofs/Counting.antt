-- How many input sections and data commands output sections have.
use Rattle.place_terms.proofs.Common.{KeyedPiece, KeyedSection, List, [], all_data_in, ap, append-nil, append_assoc}
use Rattle.place_terms.proofs.Common.{arith, data_in, length, length-append, length-map, map, refl, starts_in, suc, sym}
use Rattle.place_terms.proofs.Common.{ℕ, ◌++◌, ◌+◌, ◌∙◌, ◌∷◌, ◌≡◌}
use Rattle.place_terms.specs.declared.sections.DataAt.{DataAt}

-- the starts of one more output section
pub starts_push : (xs : List KeyedSection) (x : KeyedSection) → starts_in (xs ++ x ∷ []) ≡ starts_in xs
    ++ map (λ (p : KeyedPiece). p.start) x.pieces
starts_push [] x = append-nil (map (λ (p : KeyedPiece). p.start) x.pieces)
starts_push (y ∷ ys) x = ap (λ l. map (λ (p : KeyedPiece). p.start) y.pieces ++ l) (starts_push ys x)
    ∙ sym (append_assoc (map (λ (p : KeyedPiece). p.start) y.pieces) (starts_in ys) (map (λ
    (p : KeyedPiece). p.start) x.pieces))

pub starts_grow : (xs : List KeyedSection) (x : KeyedSection) → length (starts_in (xs ++ x ∷ []))
    ≡ length (starts_in xs) + length x.pieces
starts_grow xs x = ap length (starts_push xs x)
    ∙ (length-append (starts_in xs) (map (λ (p : KeyedPiece). p.start) x.pieces)
    ∙ ap (λ n. length (starts_in xs) + n) (length-map x.pieces (λ (p : KeyedPiece). p.start)))

-- the data commands of one more output section
pub data_grow : (k : ℕ) (xs : List KeyedSection) (x : KeyedSection) → length (all_data_in k (xs ++ x ∷ []))
    ≡ length (all_data_in k xs) + length x.data_commands
data_grow k [] x =
    let e = ap length (append-nil (data_in k x.data_commands)) ∙ data_long k x.data_commands in
    let n : length (all_data_in k []) ≡ 0 = refl in
    omega (arith, e, n)
  where
    data_long : (j : ℕ) (ds : List DataAt) → length (data_in j ds) ≡ length ds
    data_long j [] = refl
    data_long j (d ∷ ds) = ap (λ n. suc n) (data_long j ds)
data_grow k (y ∷ ys) x =
    let more = data_grow (k + 1) ys x in
    let one = length-append (data_in k y.data_commands) (all_data_in (k + 1) (ys ++ x ∷ [])) in
    let other = length-append (data_in k y.data_commands) (all_data_in (k + 1) ys) in
    omega (arith, more, one, other)
