use Rattle.elfobj.proofs.Common.{AllAdjacentBelow, Relocation, get_or, ◌-◌, ◌<◌, ◌≡◌, ◌≤◌}
use Rattle.elfobj.proofs.field.are_ascending.Given as goal

abbrev pub invariant-loop-relocation : goal.invariant-loop-relocation
invariant-loop-relocation l = record {
  sorted : AllAdjacentBelow (λ (x y : Relocation). x.offset ≤ y.offset) l.relocations l.relocation-index;
  last : (d : Relocation) → 0 < l.relocation-index → l.last ≡ (get_or l.relocations (l.relocation-index - 1) d).offset;
}
