use Rattle.ldscript.proofs.Common.{arith}
use Rattle.ldscript.proofs.Inputs.{one_as_bare, one_excluding, one_files_none, one_pattern_none}
use Rattle.ldscript.proofs.read_input.excluding_word.Goals as goal

pub returns-in_default : goal.returns-in_default
returns-in_default c = one_as_bare _ (rw c.copy.ensures at c.in_default.ensures) (λ x. x.0)
    (λ x. x.1) _ c.bare_word.ensures

pub returns-in_default-2 : goal.returns-in_default-2
returns-in_default-2 c = one_files_none _ _ (rw c.copy.ensures at c.in-Some.ensures).0
    (rw c.in_default-2.is at c.in_ok-excluded.ensures)

pub returns-in_default-3 : goal.returns-in_default-3
returns-in_default-3 c = one_pattern_none _ _ _ _ (rw c.copy.ensures at c.in-Some.ensures).0
    (rw c.in-Some-2.is at c.in_ok-excluded.ensures).spells (rw c.in_default-3.is at c.in_ok-pattern.ensures)

pub returns : goal.returns
returns c =
    let h = rw c.copy.ensures at c.in-Some.ensures in
    record {
      spells = one_excluding _ _ _ _ _ _ h.0 (rw c.in-Some-2.is at c.in_ok-excluded.ensures).spells
          (rw c.in-Some-3.is at c.in_ok-pattern.ensures).spells;
      shorter = omega (
        arith,
        h.1,
        (rw c.in-Some-2.is at c.in_ok-excluded.ensures).shorter,
        (rw c.in-Some-3.is at c.in_ok-pattern.ensures).shorter,
      );
    }
