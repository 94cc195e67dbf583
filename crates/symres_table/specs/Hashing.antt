-- What the hasher of names computes.
use Rattle.std.specs.Prelude.{ℕ, ◌+◌, ◌*◌, ◌/◌, ◌%◌, ◌^◌, ◌==◌, List, if◌then◌else◌, bit_or}
use Rattle.std.specs.List.{fold}
use Rattle.symres_table.specs.declared.hashing.WordHasher.{WordHasher}
use Rattle.symres_table.specs.declared.hashing.WordState.{WordState}

-- the halves of a number above and below 61 bits
abbrev pub once_reduced : ℕ → ℕ
once_reduced n = n % 2 ^ 61 + n / 2 ^ 61

unfoldable pub reduced : ℕ → ℕ
reduced n = once_reduced (once_reduced n)

abbrev pub combined : ℕ → ℕ → ℕ → ℕ
combined sum factor term = reduced (sum * factor + term)

-- a word with one more byte at its end
abbrev pub shifted : ℕ → ℕ → ℕ
shifted word byte = bit_or (word * 2 ^ 8 % 2 ^ 64) byte

-- the seventh byte makes the word whole, and it is added to the sum
unfoldable pub with_byte : WordHasher → ℕ → WordHasher
with_byte h byte =
    let word = shifted h.word byte in
    if word / 2 ^ 56 == 0 then record { numbers = h.numbers; sum = h.sum; word = word }
    else record { numbers = h.numbers; sum = combined h.sum h.numbers.argument word; word = 1 }

abbrev pub with_bytes : WordHasher → List ℕ → WordHasher
with_bytes h bytes = fold with_byte h bytes

unfoldable pub hash_of : WordHasher → ℕ
hash_of h = combined (combined h.sum h.numbers.argument h.word) h.numbers.factor h.numbers.offset

abbrev pub first_hasher : WordState → WordHasher
first_hasher s = record { numbers = s; sum = 0; word = 1 }
