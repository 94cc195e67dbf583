-- The longest mark by the first two bytes of a text, where 0 stands for the second of a text of one byte.
use Rattle.ldscript_tokens.proofs.Common.{List, Mode, None, Option, Some, [], arith, length, option_or, refl}
use Rattle.ldscript_tokens.proofs.Common.{slice_index, ℕ, ◌<◌, ◌∷◌, ◌≡◌}
use Rattle.std.proofs.Math.Bool.{and-false}
use Rattle.ldscript_tokens.specs.Marks.{spelled_row, row_in, longest_mark}

-- no mark has a byte 0
pub no_zero : (b : ℕ) → spelled_row (b ∷ 0 ∷ []) ≡ None
unfolding spelled_row
no_zero b = simp and-false

pub or_none : {X : Type 0} (o : Option X) → option_or o None ≡ o
or_none None = refl
or_none (Some x) = refl

pub or_self : {X : Type 0} (o : Option X) → option_or o o ≡ o
or_self None = refl
or_self (Some x) = refl

pub longest_by_bytes : (mode : Mode) (text : List ℕ) → 0 < length text
    → longest_mark mode text
    ≡ option_or (row_in mode (spelled_row (slice_index text 0 ∷ slice_index text 1 ∷ [])))
    (row_in mode (spelled_row (slice_index text 0 ∷ [])))
unfolding longest_mark
longest_by_bytes mode [] h = absurd (omega arith)
longest_by_bytes mode (b ∷ []) h = simp (or_none, or_self, no_zero b)
longest_by_bytes mode (b ∷ c ∷ cs) h = simp or_none
