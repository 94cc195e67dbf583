-- The names so far.
use Rattle.gather.proofs.Common.{take}
use Rattle.gather.specs.NamedPieces.{AreNames}
use Rattle.gather.proofs.sorting.names_of.Given as goal

abbrev pub invariant-loop-piece : goal.invariant-loop-piece
invariant-loop-piece l = AreNames l.project (take l.piece-index l.pieces) l.names.items
