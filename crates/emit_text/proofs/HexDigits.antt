-- The 16 hex digits of a number, each made up by four of its bits.
use Rattle.emit_text.proofs.Common.{Bool, List, [], ap, arith, cond, false, get_or, hex, map, nat_lt, refl, suc, sym}
use Rattle.emit_text.proofs.Common.{true, zero, ℕ, ◌%◌, ◌*◌, ◌++◌, ◌+◌, ◌/◌, ◌<◌, ◌^◌, ◌∙◌, ◌∷◌, ◌≡◌}
use Rattle.std.proofs.Math.Nat.{div-div-eq-div-mul, mod-mod_of_dvd, mul_comm}
use Rattle.std.proofs.lemmas.Nat.{and_mask, be_bytes_8}
use Rattle.std.proofs.lemmas.Nat.Gcd.{dvd_of_mod-eq-zero}
use Rattle.std.proofs.lemmas.Simd.{get_or_narrower}
use Rattle.std.specs.Int.{swap_bytes, to_be_bytes, to_le_bytes, w64}
use lib.Bits.{bit_and}
use lib.Lanes.{Each1, digits_l, number_l, top}
use Rattle.ldmodel.specs.Lines.{hex_digit}

-- what is made of these bits: their number after `0`, and 39 more from ten on, so after what comes ten before `a`
abbrev made : ℕ → ℕ
made bits = ((bits + 48) % 256 + cond (top 7 (cond (nat_lt 9 bits) 255 0)) 39 0) % 256

made_below : (d : ℕ) → d < 16 → made d ≡ hex_digit d
made_below d h = go (nat_lt 9 d) refl
  where
    go : (b : Bool) → nat_lt 9 d ≡ b → ((d + 48) % 256 + cond (top 7 (cond b 255 0)) 39 0) % 256 ≡ hex_digit d
    go true e = search (arith, e, h)
    go false e = search (arith, e, h)

made_low : (x : ℕ) → made (bit_and x 15) ≡ hex_digit (x % 16)
made_low x = ap made (and_mask x 4) ∙ made_below (x % 16) (omega arith)

-- ---- the bytes of a number, the last of them first

abbrev bytes : ℕ → List ℕ
bytes x = digits_l 256 16 (number_l (2 ^ 64) (x ∷ 0 ∷ []))

lane : (x i m : ℕ) → x < 2 ^ 64 → i < 8 → 256 ^ i ≡ m → get_or (bytes x) (8 * 0 + i) 0 ≡ x / m % 256
lane x i m h k e =
    let none : 0 < 2 ^ 64 = omega arith in
    get_or_narrower (2 ^ 64) 8 256 16 (x ∷ 0 ∷ []) 0 i refl (h, (none, tt)) k (omega (arith, k))
    ∙ ap (λ d. x / d % 256) e

low_digit : (x : ℕ) → x % 256 % 16 ≡ x % 16
low_digit x = mod-mod_of_dvd 16 x (dvd_of_mod-eq-zero 16 refl)

high_digit : (x : ℕ) → x / 16 % 16 ≡ x % 256 / 16 % 16
high_digit x = omega arith

-- the digits that a byte makes, where the byte `n / w % 256` of one number is the byte `s / m % 256` of the other
high_half : (n s i m w v : ℕ) → s < 2 ^ 64 → i < 8 → 256 ^ i ≡ m → w * 16 ≡ v → s / m % 256 ≡ n / w % 256
    → made (bit_and (get_or (bytes (s / 16)) (8 * 0 + i) 0) 15) ≡ hex_digit (n / v % 16)
high_half n s i m w v h k e f same =
    let half : s / 16 < 2 ^ 64 = omega (arith, h) in
    made_low (get_or (bytes (s / 16)) (8 * 0 + i) 0)
    ∙ ap hex_digit (ap (λ y. y % 16) (lane (s / 16) i m half k e) ∙ low_digit (s / 16 / m)
    ∙ ap (λ y. y % 16) (div-div-eq-div-mul s 16 m ∙ ap (λ d. s / d) (mul_comm 16 m) ∙ sym (div-div-eq-div-mul s m 16))
    ∙ high_digit (s / m) ∙ ap (λ y. y / 16 % 16) same ∙ sym (high_digit (n / w))
    ∙ ap (λ y. y % 16) (div-div-eq-div-mul n w 16 ∙ ap (λ d. n / d) f))

low_half : (n s i m w : ℕ) → s < 2 ^ 64 → i < 8 → 256 ^ i ≡ m → s / m % 256 ≡ n / w % 256
    → made (bit_and (get_or (bytes s) (8 * 0 + i) 0) 15) ≡ hex_digit (n / w % 16)
low_half n s i m w h k e same =
    made_low (get_or (bytes s) (8 * 0 + i) 0)
    ∙ ap hex_digit (ap (λ y. y % 16) (lane s i m h k e ∙ same) ∙ low_digit (n / w))

-- ---- the same bytes in reverse order

small : (xs : List ℕ) → Each1 (λ x. x < 256) xs → (i : ℕ) → get_or xs i 0 < 256
small [] h i = omega arith
small (x ∷ xs) h zero = h.0
small (x ∷ xs) h (suc i) = small xs h.1 i

are_small : (n : ℕ) → Each1 (λ x. x < 256) (to_le_bytes w64 n)
are_small n = (
  omega arith,
  (omega arith, (omega arith, (omega arith, (omega arith, (omega arith, (omega arith, (omega arith, tt))))))),
)

swapped : (n s : ℕ) → s ≡ swap_bytes w64 n → to_be_bytes w64 s ≡ to_le_bytes w64 n
swapped n s e = be_bytes_8 (to_le_bytes w64 n) s refl (small (to_le_bytes w64 n) (are_small n)) e

swapped_fits : (n s : ℕ) → s ≡ swap_bytes w64 n → s < 2 ^ 64
swapped_fits n s e = omega (arith, e)

two_more : (x y : ℕ) (xs : List ℕ) (v w : ℕ) (ys : List ℕ) → x ≡ v → y ≡ w → xs ≡ ys → x ∷ y ∷ xs ≡ v ∷ w ∷ ys
two_more x y xs v w ys e f g = cc

module _ (n s : ℕ) (e : s ≡ swap_bytes w64 n) where
  h : s < 2 ^ 64
  h = swapped_fits n s e

  same : (i : ℕ) → get_or (to_be_bytes w64 s) i 0 ≡ get_or (to_le_bytes w64 n) i 0
  same i = ap (λ xs. get_or xs i 0) (swapped n s e)

  first : s / 1 % 256 ≡ n / 256 ^ 7 % 256
  first = ap (λ x. x % 256) (omega arith) ∙ same 7

  last : s / 256 ^ 7 % 256 ≡ n / 1 % 256
  last = same 0 ∙ ap (λ x. x % 256) (omega arith)

  two : (i m w v : ℕ) (xs ys : List ℕ) → i < 8 → 256 ^ i ≡ m → w * 16 ≡ v → s / m % 256 ≡ n / w % 256 → xs ≡ ys
      → made (bit_and (get_or (bytes (s / 16)) (8 * 0 + i) 0) 15)
      ∷ made (bit_and (get_or (bytes s) (8 * 0 + i) 0) 15) ∷ xs
      ≡ hex_digit (n / v % 16) ∷ hex_digit (n / w % 16) ∷ ys
  two i m w v xs ys k p q b more =
      two_more _ _ _ _ _ _ (high_half n s i m w v h k p q b) (low_half n s i m w h k p b) more

  pub sixteen : map (λ k. made (bit_and (get_or (bytes (s / 16) ++ bytes s) k 0) 15))
      (0 ∷ 16 ∷ 1 ∷ 17 ∷ 2 ∷ 18 ∷ 3 ∷ 19 ∷ 4 ∷ 20 ∷ 5 ∷ 21 ∷ 6 ∷ 22 ∷ 7 ∷ 23 ∷ []) ≡ hex n
  unfolding hex
  sixteen =
      two 0 _ (256 ^ 7) _ _ _ (omega arith) refl refl first (
      two 1 _ (256 ^ 6) _ _ _ (omega arith) refl refl (same 6) (
      two 2 _ (256 ^ 5) _ _ _ (omega arith) refl refl (same 5) (
      two 3 _ (256 ^ 4) _ _ _ (omega arith) refl refl (same 4) (
      two 4 _ (256 ^ 3) _ _ _ (omega arith) refl refl (same 3) (
      two 5 _ (256 ^ 2) _ _ _ (omega arith) refl refl (same 2) (
      two 6 _ (256 ^ 1) _ _ _ (omega arith) refl refl (same 1) (
      two 7 _ 1 _ _ _ (omega arith) refl refl last refl)))))))
