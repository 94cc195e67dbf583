use Rattle.ldi_deferred.proofs.EqualLines.{line_same}
use Rattle.ldi_deferred.proofs.ImageChanges.{same_at}
use Rattle.ldi_deferred.proofs.changed.is_same_line.Goals as goal

pub returns : goal.returns
returns c = λ yes.
    same_at c.args.from 64 c.args.sent.now c.args.image.now c.requires.sent c.requires.image
    (line_same c.args.from c.args.sent.now c.args.image.now c.requires.sent c.requires.image yes)
