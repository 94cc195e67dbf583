use Rattle.emit.proofs.Common.{arith}
use Rattle.emit.proofs.Ordering.{all_read, read_more}
use Rattle.emit.proofs.objects_read.objects_are_read.Goals as goal

pub loop-input-preserved : goal.loop-input-preserved
loop-input-preserved c =
    read_more c.inputs-inputs.result.now c.loop-input.input-index c.input-item.result
    (omega (arith, c.loop-input-test.true)) c.input-item.is c.loop-input.invariant c.as_read.ensures

pub returns-clause-read : goal.returns-clause-read
returns-clause-read c =
    all_read c.inputs-inputs.result.now c.loop-input.input-index c.args.project.now.objects
    (omega (arith, c.loop-input-test.false)) c.inputs-inputs.ensures.same c.loop-input.invariant
