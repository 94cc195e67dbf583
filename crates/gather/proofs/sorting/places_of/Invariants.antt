-- The places so far.
use Rattle.gather.specs.NamedPieces.{AreOfNames}
use Rattle.gather.proofs.sorting.places_of.Given as goal

abbrev pub invariant-loop-place : goal.invariant-loop-place
invariant-loop-place l = AreOfNames l.start l.names l.place l.places.items
