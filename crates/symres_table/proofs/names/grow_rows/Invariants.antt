use Rattle.symres_table.proofs.Common.{All, GrowsRoom, Numbered, length, take, ◌<◌}
use Rattle.symres_table.proofs.names.grow_rows.Given as goal

abbrev pub invariant-loop-at : goal.invariant-loop-at
invariant-loop-at l = record {
  grow : GrowsRoom l.fn.objects l.objects;
  within : All (λ (s : Numbered). s.name < length l.objects.room) (take l.at l.symbols);
}
