use Rattle.emit_image.proofs.Common.{AreSectionsReached}
use Rattle.emit_image.proofs.redraw.sections_end.Given as goal

abbrev pub invariant-loop-x : goal.invariant-loop-x
invariant-loop-x l = record { reached : AreSectionsReached l.drawing l.x-index l.at }
