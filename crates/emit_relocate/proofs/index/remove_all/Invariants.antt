use Rattle.emit_relocate.proofs.Common.{cleared, length, room_at, slots_at, take, ℕ, ◌≡◌, ◌≤◌}
use Rattle.emit_relocate.specs.Index.{slot}
use Rattle.emit_relocate.proofs.index.remove_all.Given as goal

abbrev pub invariant-loop-spot : goal.invariant-loop-spot
invariant-loop-spot l =
    ((t k : ℕ) → slot l.targets.items t k ≡ cleared t k (take l.spot-index l.spots) (slot l.initial.targets.items t k))
    × ((t : ℕ) → length (slots_at l.targets.items t) ≡ length (slots_at l.initial.targets.items t))
    × ((t : ℕ) → room_at l.initial.targets.items t ≤ room_at l.targets.items t)
