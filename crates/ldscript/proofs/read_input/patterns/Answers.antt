use Rattle.ldscript.proofs.Common.{CloseParenthesis, mark, pattern}
use Rattle.ldscript.proofs.Each.{each_so_far_closed, each_so_far_member, each_so_far_stuck}
use Rattle.ldscript.proofs.Inputs.{pattern_single, patterns_listed}
use Rattle.ldscript.proofs.read_input.patterns.Goals as goal

pub returns-in-Some : goal.returns-in-Some
returns-in-Some c = let m = rw c.copy.ensures at c.in-Some.ensures in
    each_so_far_closed (mark CloseParenthesis) pattern _ _ _ _ c.reading.invariant m.0 m.1

pub returns-in_default-2 : goal.returns-in_default-2
returns-in_default-2 c =
    let n = (rw c.in_default-2.is at c.in_ok-pattern.ensures) in
    each_so_far_stuck (λ ts. Unit {0}) (mark CloseParenthesis) pattern patterns_listed _ _ _ c.reading.invariant
    (rw c.copy.ensures at c.in_default.ensures) (λ y more d st. n y more d)

pub reading-preserved : goal.reading-preserved
reading-preserved c = rw c.in_ok-push.ensures
    (each_so_far_member (λ ts. Unit {0}) (mark CloseParenthesis) pattern patterns_listed _ _ _ _ _ c.reading.invariant
    (rw c.in-Some-2.is at c.in_ok-pattern.ensures).spells
    (λ y more d st. pattern_single _ _ _ _ _ d (rw c.in-Some-2.is at c.in_ok-pattern.ensures).spells)
    (rw c.in-Some-2.is at c.in_ok-pattern.ensures).shorter)
