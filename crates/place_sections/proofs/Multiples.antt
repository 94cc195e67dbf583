-- The next multiple of an alignment, with no division by a power of two.
use Rattle.place_sections.proofs.Common.{and_mask, ap, arith, subst, sym, ℕ, ◌%◌, ◌+◌, ◌-◌, ◌<◌, ◌^◌, ◌∙◌, ◌≡◌}
use Rattle.std.specs.Int.{next_multiple_of}
use Rattle.std.specs.Int.Bits.{bit_and}
use Rattle.std.proofs.Math.Nat.{mod-eq_of_lt}

-- what lies below a power of two
pub below_power : (n a k : ℕ) → 2 ^ k ≡ a → bit_and n (a - 1) ≡ n % a
below_power n a k is = subst (λ (m : ℕ). bit_and n (m - 1) ≡ n % m) is (and_mask n k)

-- the next multiple of a number that is none
pub next_is : (x y past : ℕ) → past ≡ x % y → (past ≡ 0 → ⊥) → past < y → next_multiple_of x y ≡ x + (y - past)
next_is x y past is some less =
    let low : y - past < y = omega (arith, some, less) in
    ap (λ (m : ℕ). x + (y - m) % y) (sym is) ∙ ap (λ (m : ℕ). x + m) (mod-eq_of_lt low)
