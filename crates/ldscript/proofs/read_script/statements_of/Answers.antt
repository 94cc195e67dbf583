use Rattle.ldscript.proofs.Common.{rules, top_statement}
use Rattle.ldscript.proofs.Tops.{at_end}
use Rattle.ldscript.proofs.Lists.{so_far_semicolon, so_far_statement}
use Rattle.ldscript.proofs.Tops.{no_script, takes_statement, tops_listed, whole_script}
use Rattle.ldscript.proofs.read_script.statements_of.Goals as goal

pub reading-preserved-in-Some : goal.reading-preserved-in-Some
reading-preserved-in-Some c = let m = rw c.copy.ensures at c.in-Some.ensures in
    so_far_semicolon (λ ts. Unit {0}) at_end top_statement tops_listed _ _ _ _ c.reading.invariant m.0 m.1

pub returns-then-is_empty : goal.returns-then-is_empty
returns-then-is_empty c = whole_script _ _ _ c.reading.invariant (search rules)

pub returns-in_default-2 : goal.returns-in_default-2
returns-in_default-2 c = no_script _ _ _ c.reading.invariant (search rules) (rw c.copy.ensures at c.in_default.ensures)
    (rw c.in_default-2.is at c.in_ok-command.ensures)

pub reading-preserved : goal.reading-preserved
reading-preserved c =
    let d = rw c.in-Some-2.is at c.in_ok-command.ensures in
    rw c.in_ok-push.ensures (so_far_statement
    (λ ts. Unit {0}) at_end top_statement tops_listed _ _ _ _ _ c.reading.invariant (search rules, d.spells)
    (λ y more e st. takes_statement _ _ _ _ (search rules) d.spells y more e) d.shorter)
