-- Kinds of names: a bit that is set, and a table that gets a name.
use Rattle.ldscript_statements.proofs.Common.{Bool, Err, List, Ok, OnErr, OnOk, Option, Result, Some, ap, arith, bit_at}
use Rattle.ldscript_statements.proofs.Common.{bit_at-lt, bit_at_or, bit_or, bytes_eq, cond, false, is_some, max, refl}
use Rattle.ldscript_statements.proofs.Common.{sym, true, ℕ, ◌<◌, ◌==◌, ◌∙◌, ◌≡◌, ◌≢◌}
use Rattle.std.proofs.lemmas.Bool.Decides.{nat_tests}
use Rattle.ldscript_statements.proofs.NameTables.{same_bytes}

neither : (a b : ℕ) → a < 2 → b < 2 → (max a b == 1) ≡ false → (a == 1) ≡ false
neither a b l m h = grind (arith, nat_tests)

-- a bit that is not set after others are set was not set before
pub was_off : (old more i : ℕ) → (bit_at (bit_or old more) i == 1) ≡ false → (bit_at old i == 1) ≡ false
was_off old more i h =
    neither (bit_at old i) (bit_at more i) (bit_at-lt old i) (bit_at-lt more i)
    (ap (λ n. n == 1) (sym (bit_at_or old more i)) ∙ h)

pub by_result : {T E A B C : Type 0} (r : Result T E) → OnOk r A → OnErr r B → (A → C) → (B → C) → C
by_result (Ok x) a b f g = f a
by_result (Err e) a b f g = g b

-- another name is put in
pub still_absent : {V : Type 0} (q name : List ℕ) (v : V) (old new : Option V) → q ≢ name
    → new ≡ cond (bytes_eq q name) (Some v) old → is_some old ≡ false → is_some new ≡ false
still_absent q name v old new apart is none = go (bytes_eq q name) refl is
  where
    go : (b : Bool) → bytes_eq q name ≡ b → new ≡ cond b (Some v) old → is_some new ≡ false
    go true e i = absurd (apart (same_bytes q name e))
    go false e i = ap is_some i ∙ none
