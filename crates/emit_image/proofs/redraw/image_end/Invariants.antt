use Rattle.emit_image.proofs.Common.{ArePartsReached}
use Rattle.emit_image.proofs.redraw.image_end.Given as goal

abbrev pub invariant-loop-part : goal.invariant-loop-part
invariant-loop-part l = record { reached : ArePartsReached l.drawing l.part-index l.at }
