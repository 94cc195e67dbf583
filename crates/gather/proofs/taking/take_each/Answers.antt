use Rattle.gather.proofs.Common.{Takes, arith, gathered, map, subst, take_all}
use Rattle.ldscript.specs.statements.Numbered.{shown_inputs}
use Rattle.gather.proofs.AllTaken.{one_taken}
use Rattle.gather.proofs.taking.take_each.Goals as goal

pub loop-section-preserved : goal.loop-section-preserved
loop-section-preserved c =
    one_taken (shown_inputs c.args.statements.now) c.args.orphans (gathered c.args.place c.args.statement)
    c.args.run.now c.args.taken.now c.loop-section.taken c.take_section.new.taken c.loop-section.section-index _
    c.linked.result (omega (arith, c.loop-section-test.true)) c.linked.ensures c.in_ok-take_section.ensures
    c.loop-section.invariant

pub returns : goal.returns
returns c =
    subst (λ l. Takes (shown_inputs c.args.statements.now) c.args.orphans c.args.taken.now c.loop-section.taken
    (map (gathered c.args.place c.args.statement) l))
    (take_all c.loop-section.section-index c.args.run.now (omega (arith, c.loop-section-test.false)))
    c.loop-section.invariant
