use Rattle.emit_image.proofs.Common.{◌∙◌}
use Rattle.emit_image.proofs.ProgramHeaders.{loaded_end_is}
use Rattle.emit_image.proofs.headers.loaded_end.Goals as goal

pub returns-in-Ok : goal.returns-in-Ok
returns-in-Ok c = λ sections gs h. c.in-Ok.ensures.1
    ∙ loaded_end_is sections gs c.args.segments.now c.loop-g.g-index c.loop-g.end h c.loop-g-test.false
    c.loop-g.invariant
