use Rattle.gather.proofs.Common.{arith, drop, gathered_by, ◌+◌}
use Rattle.gather.proofs.ByRuns.{none_left, run_added, run_cut}
use Rattle.gather.proofs.gathered_section.add_linked.Goals as goal

pub loop-run-preserved : goal.loop-run-preserved
loop-run-preserved c =
    let k = c.loop-run.run-index in
    run_added c.loop-run.sections.items c.add_run.new.sections.items _
    (gathered_by c.args.place c.loop-run.rest.now (drop k c.args.runs.now))
    (gathered_by c.args.place c.split_run.result.1.now (drop (k + 1) c.args.runs.now)) _ c.in_ok-add_run.ensures
    (run_cut c.args.place c.loop-run.rest.now c.split_run.result.0.now c.split_run.result.1.now c.args.runs.now k _
    (omega (arith, c.loop-run-test.true)) c.split_run.ensures.own c.split_run.ensures.later)
    c.loop-run.invariant

pub returns : goal.returns
returns c =
    none_left c.args.place c.loop-run.rest.now c.args.runs.now c.loop-run.run-index c.loop-run.sections.items _
    c.loop-run-test.false c.loop-run.invariant
