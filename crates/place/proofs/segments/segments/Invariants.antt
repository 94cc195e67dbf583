-- The groups so far have their places, and the file is not long.
use Rattle.place.proofs.Common.{drop}
use Rattle.place.proofs.FileOffsets.{Placing}
use Rattle.place.proofs.segments.segments.Given as goal

abbrev pub invariant-loop-group : goal.invariant-loop-group
invariant-loop-group l = Placing l.group-items (drop l.group-index l.group-items) l.segments.items l.end l.group-index
