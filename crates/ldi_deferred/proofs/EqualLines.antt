-- Lines of bytes that are compared as vectors.
use Rattle.ldi_deferred.proofs.Common.{List, [], ap, arith, drop, length, refl, sym, take, ℕ, ◌+◌, ◌∙◌, ◌∷◌, ◌≡◌, ◌≤◌}
use Rattle.std.proofs.Common.{◌*◌, ◌%◌, ◌^◌, Bool, true, false, cond, not, eqb, eqb-true, map, nat_eq, w8}
use Rattle.std.specs.Simd.Lanes.{mask_l, top, zip2}
use Rattle.std.proofs.lemmas.Simd.{length-chunk, length-zip2, mask_l-mod, tops_compared}

abbrev differs : ℕ → ℕ → Bool
differs a b = not (eqb a b)

-- where no lane differs
lanes_same : (xs ys : List ℕ) → length xs ≡ length ys → mask_l (zip2 differs xs ys) ≡ 0 → xs ≡ ys
lanes_same [] [] l h = refl
lanes_same [] (y ∷ ys) l h = absurd (omega (arith, l))
lanes_same (x ∷ xs) [] l h = absurd (omega (arith, l))
lanes_same (x ∷ xs) (y ∷ ys) l h =
    first (eqb x y) refl h (λ none. lanes_same xs ys (omega (arith, l)) none)
  where
    first : (b : Bool) → eqb x y ≡ b → cond {A = ℕ} (not b) 1 0 + 2 * mask_l (zip2 differs xs ys) ≡ 0
        → (mask_l (zip2 differs xs ys) ≡ 0 → xs ≡ ys) → x ∷ xs ≡ y ∷ ys
    first true e k rest =
        ap (λ (z : ℕ). z ∷ xs) (eqb-true x y e) ∙ ap (λ (zs : List ℕ). y ∷ zs) (rest (omega (arith, k)))
    first false e k rest = absurd (omega (arith, k))

-- where the mask of the lanes that differ is 0
pub line_same : (from : ℕ) (sent image : List ℕ) → from + 64 ≤ length sent → from + 64 ≤ length image
    → nat_eq (mask_l (map (top 7) (zip2 (λ a b. cond (differs a b) 255 0) (take 64 (drop from sent))
    (take 64 (drop from image)))) % 2 ^ 64) 0 ≡ true
    → take 64 (drop from sent) ≡ take 64 (drop from image)
line_same from sent image g i h =
    let xs : List ℕ = take 64 (drop from sent) in
    let ys : List ℕ = take 64 (drop from image) in
    let long : length xs ≡ 64 = length-chunk from 64 sent g in
    let many : length ys ≡ 64 = length-chunk from 64 image i in
    let bits : List Bool = zip2 differs xs ys in
    let few : length bits ≡ 64 = length-zip2 differs xs ys (long ∙ sym many) ∙ long in
    let none : mask_l (map (top 7) (zip2 (λ a b. cond (differs a b) 255 0) xs ys)) % 2 ^ 64 ≡ 0 = eqb-true _ 0 h in
    lanes_same xs ys (long ∙ sym many)
    (sym (mask_l-mod bits 64 (omega (arith, few)))
    ∙ (ap (λ (ms : List Bool). mask_l ms % 2 ^ 64) (sym (tops_compared w8 differs xs ys)) ∙ none))
