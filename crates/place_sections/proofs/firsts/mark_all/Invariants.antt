-- The first of those so far.
use Rattle.place_sections.proofs.Common.{Kept, length, take, ◌*◌, ◌≡◌}
use Rattle.place_sections.specs.Firsts.{AreFirst}
use Rattle.place_sections.proofs.firsts.mark_all.Given as goal

abbrev pub invariant-loop-k : goal.invariant-loop-k
invariant-loop-k l = record {
  lengths : length l.nodes ≡ 2 * length l.in_order;
  kept : Kept l.in_order l.nodes l.firsts;
  first : AreFirst (take l.k l.extents) l.in_order l.firsts;
}
