-- One output section a step.
use Rattle.emit.proofs.Common.{IsOutput, IsTableSection, arith, sym}
use Rattle.emit.proofs.Lists.{zip_done, zip_next}
use Rattle.emit.proofs.parts.table_sections.Goals as goal

pub loop-output-preserved : goal.loop-output-preserved
loop-output-preserved c p s stays outputs =
    zip_next (IsOutput p s stays) (IsTableSection s) s.sections c.args.outputs.now c.loop-output.sections.items _
    c.loop-output.output-index c.output-item.result _ outputs (omega (arith, c.loop-output-test.true))
    (sym c.output-item.is) (λ q is. c.table_section.ensures p s stays q is) c.in_ok-push.ensures.items
    (c.loop-output.invariant p s stays outputs)

pub returns : goal.returns
returns c p s stays outputs =
    zip_done (IsOutput p s stays) (IsTableSection s) s.sections c.args.outputs.now c.loop-output.sections.items
    c.loop-output.output-index outputs c.loop-output-test.false (c.loop-output.invariant p s stays outputs)
