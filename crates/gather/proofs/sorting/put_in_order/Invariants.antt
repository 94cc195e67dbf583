-- The pieces so far.
use Rattle.gather.proofs.Common.{take, ◌≡◌}
use Rattle.gather.specs.NamedPieces.{pieces_at}
use Rattle.gather.proofs.sorting.put_in_order.Given as goal

abbrev pub invariant-loop-entry : goal.invariant-loop-entry
invariant-loop-entry l = l.ordered.items ≡ pieces_at l.pieces.items (take l.entry-index l.places)
