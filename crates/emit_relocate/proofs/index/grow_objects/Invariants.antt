use Rattle.emit_relocate.proofs.Common.{spots_at, vec_len, ℕ, ◌+◌, ◌-◌, ◌≡◌}
use Rattle.emit_relocate.proofs.index.grow_objects.Given as goal

abbrev pub invariant-loop-alloc : goal.invariant-loop-alloc
invariant-loop-alloc l = (o : ℕ) → spots_at l.objects.items o ≡ spots_at l.initial.objects.items o

abbrev pub decreases-loop-alloc : goal.decreases-loop-alloc
decreases-loop-alloc l = l.object + 1 - vec_len l.objects
