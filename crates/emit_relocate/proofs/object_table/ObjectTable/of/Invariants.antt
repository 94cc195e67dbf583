use Rattle.emit_relocate.proofs.Common.{vec_capacity, vec_len, ◌≡◌, ◌≤◌}
use Rattle.emit_relocate.specs.ObjectTable.{AreObjects}
use Rattle.emit_relocate.proofs.object_table.ObjectTable.of.Given as goal

-- the objects before this place, and room for all
abbrev pub invariant-loop-place : goal.invariant-loop-place
invariant-loop-place l = record {
  long : vec_len l.objects ≡ l.place;
  room : l.count ≤ vec_capacity l.objects;
  objects : AreObjects l.link.project.now l.link.indexed_layout.now l.objects.items;
}
