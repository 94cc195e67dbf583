use Rattle.emit_relocate.proofs.Common.{Relocation, get_or, ℕ, ◌<◌, ◌≤◌}
use Rattle.emit_relocate.proofs.fields.is_ascending.Given as goal

abbrev pub invariant-loop-relocation : goal.invariant-loop-relocation
invariant-loop-relocation l = record {
  below : (i : ℕ) (d : Relocation) → i < l.relocation-index → (get_or l.relocations i d).offset ≤ l.last;
  up : (i j : ℕ) (d : Relocation) → i ≤ j → j < l.relocation-index
      → (get_or l.relocations i d).offset ≤ (get_or l.relocations j d).offset;
}
