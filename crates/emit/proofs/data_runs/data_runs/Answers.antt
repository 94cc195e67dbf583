-- One output section a step.
use Rattle.emit.proofs.Common.{Bor, List, ap, map, map-append, ◌∙◌}
use Rattle.ldmodel.specs.declared.placed.PlacedData.{PlacedData}
use Rattle.emit.proofs.Running.{one_pushed}
use Rattle.emit.proofs.data_runs.data_runs.Goals as goal

pub loop-section-preserved : goal.loop-section-preserved
loop-section-preserved c =
    let now : Bor (List PlacedData) → List PlacedData = λ run. run.now in
    one_pushed c.args.commands.now c.args.sections c.loop-section.section c.loop-section.at c.run_length.result
    (map now c.loop-section.runs.items) _ c.loop-section-test.true c.run_length.ensures.exact
    c.run_length.ensures.within
    (ap (map now) c.in_ok-push.ensures.items ∙ map-append now c.loop-section.runs.items _) c.loop-section.invariant
