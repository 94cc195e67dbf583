-- Digits never lower a number.
use Rattle.ldscript_tokens.proofs.Common.{List, [], arith, digit_value, drop, drop-cons, fold, get_or, length, suc, ℕ}
use Rattle.ldscript_tokens.proofs.Common.{◌*◌, ◌+◌, ◌<◌, ◌∷◌, ◌≤◌}
use Rattle.std.proofs.Math.Nat.{mul-le-mul_left}

abbrev pub more_digits : ℕ → ℕ → List ℕ → ℕ
more_digits base v digits = fold (λ v d. v * base + digit_value d) v digits

pub scaled : (b v d : ℕ) → 0 < b → v ≤ v * b + d
scaled b v d h = let e : 1 ≤ b = omega arith in omega (arith, mul-le-mul_left v e)

pub more_digits_grow : (base v : ℕ) (digits : List ℕ) → 0 < base → v ≤ more_digits base v digits
more_digits_grow base v [] h = omega arith
more_digits_grow base v (d ∷ ds) h =
    omega (arith, scaled base v (digit_value d) h, more_digits_grow base (v * base + digit_value d) ds h)

-- the next digit is counted, and no later one takes from it
pub next_digit : (base v : ℕ) (digits : List ℕ) (i : ℕ) → 0 < base → i < length digits
    → v * base + digit_value (get_or digits i 0) ≤ more_digits base v (drop i digits)
next_digit base v digits i h lt =
    rw (drop-cons digits i 0) (more_digits_grow base (v * base + digit_value (get_or digits i 0))
    (drop (suc i) digits) h)
