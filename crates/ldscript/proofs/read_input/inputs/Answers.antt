use Rattle.ldscript.proofs.Common.{CloseBrace, input_statement, mark, rules}
use Rattle.ldscript.proofs.Lists.{so_far_closed, so_far_semicolon, so_far_statement, so_far_stuck}
use Rattle.ldscript.proofs.Inputs.{inputs_listed, input_statement_single}
use Rattle.ldscript.proofs.read_input.inputs.Goals as goal

pub reading-preserved-in-Some : goal.reading-preserved-in-Some
reading-preserved-in-Some c = let m = rw c.copy.ensures at c.in-Some.ensures in
    so_far_semicolon (λ ts. Unit {0})
    (mark CloseBrace) input_statement inputs_listed _ _ _ _ c.reading.invariant m.0 m.1

pub returns-in-Some-after : goal.returns-in-Some-after
returns-in-Some-after c = let m = rw c.copy-in-reading.ensures at c.in-Some-after.ensures in
    so_far_closed (mark CloseBrace) input_statement _ _ _ _ c.reading.invariant m.0 m.1

pub returns-in_default-2 : goal.returns-in_default-2
returns-in_default-2 c =
    let n = (rw c.in_default-2.is at c.in_ok-input.ensures) in
    so_far_stuck (λ ts. Unit {0}) (mark CloseBrace) input_statement inputs_listed _ _ _ c.reading.invariant
    (rw c.copy-in-reading.ensures at c.in_default-after.ensures) (rw c.copy.ensures at c.in_default.ensures)
    (λ y more d st. n y.input more d.1)

pub reading-preserved : goal.reading-preserved
reading-preserved c = rw c.in_ok-push.ensures
    (so_far_statement (λ ts. Unit {0}) (mark CloseBrace) input_statement inputs_listed _ _ _ _ _ c.reading.invariant
    (search rules, (rw c.in-Some-2.is at c.in_ok-input.ensures).spells)
    (λ y more d st. input_statement_single _ _ _ _ _ d
    (search rules, (rw c.in-Some-2.is at c.in_ok-input.ensures).spells))
    (rw c.in-Some-2.is at c.in_ok-input.ensures).shorter)
