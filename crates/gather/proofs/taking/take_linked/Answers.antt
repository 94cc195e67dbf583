use Rattle.gather.proofs.Common.{arith}
use Rattle.ldscript.specs.statements.Numbered.{shown_inputs}
use Rattle.gather.proofs.AllTaken.{no_part, part_taken, whole_taken}
use Rattle.gather.proofs.taking.take_linked.Goals as goal

pub loop-run-init : goal.loop-run-init
loop-run-init c = no_part (shown_inputs c.args.statements.now) c.args.orphans c.args.taken.now _

pub loop-run-preserved : goal.loop-run-preserved
loop-run-preserved c =
    part_taken (shown_inputs c.args.statements.now) c.args.orphans c.args.place c.loop-run.rest.now
    c.split_run.result.0.now c.split_run.result.1.now c.args.runs.now c.loop-run.run-index _ c.args.taken.now
    c.loop-run.taken c.take_run.new.taken _ (omega (arith, c.loop-run-test.true)) c.split_run.ensures.own
    c.split_run.ensures.later c.in_ok-take_run.ensures c.loop-run.invariant

pub returns : goal.returns
returns c =
    whole_taken (shown_inputs c.args.statements.now) c.args.orphans c.args.place c.loop-run.rest.now c.args.runs.now
    c.loop-run.run-index c.args.taken.now c.loop-run.taken _ c.loop-run-test.false c.loop-run.invariant
