-- The numbers of names that have cases.
use Rattle.emit_relocate.proofs.Common.{Case, HasCase, List, ObjectPlace, Option, Some, arith, cases_lt, get_or}
use Rattle.emit_relocate.proofs.Common.{get_or_past, length, ℕ, ⊎_elim, ◌<◌, ◌≡◌, ◌≤◌}
use Rattle.std.specs.Prelude.{None}

pub case_within : (cases : List (Option (Case ObjectPlace))) (k n : ℕ) → n ≡ length cases → HasCase cases k → k < n
case_within cases k n e h = ⊎_elim (λ lt. lt) (λ le. absurd (past le)) (cases_lt k n)
  where
    past : n ≤ k → ⊥
    past le =
        let none : get_or cases k None ≡ None = get_or_past cases k None (omega (arith, le, e)) in
        let some : get_or cases k None ≡ Some h.0 = h.1 in
        absurd (cc)
