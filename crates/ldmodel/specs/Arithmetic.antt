-- Arithmetic of addresses, which have 64 bits (gABI, "Data Representation"): whole numbers, and numbers modulo 2^64.
use Rattle.std.specs.Prelude.{ℕ, ◌+◌, ◌-◌, ◌%◌, ◌^◌, Bool, nat_lt}

-- a whole number is the number of an address
abbrev pub is_address : ℕ → Bool
is_address x = nat_lt x (2 ^ 64)

-- x + y modulo 2^64
abbrev pub plus_modulo : ℕ → ℕ → ℕ
plus_modulo x y = (x + y) % 2 ^ 64

-- x - y modulo 2^64, of numbers below 2^64
abbrev pub minus_modulo : ℕ → ℕ → ℕ
minus_modulo x y = (x + (2 ^ 64 - y)) % 2 ^ 64
