use Rattle.symres_table.proofs.Common.{AreOf, Spells, take, vec_capacity, vec_len, ◌≡◌}
use Rattle.symres_table.proofs.lists.number_all.Given as goal

abbrev pub invariant-loop-index : goal.invariant-loop-index
invariant-loop-index l = record {
  spelled : Spells l.known.slots l.list.items (take l.index l.object.symbols);
  of : AreOf l.known.slots l.object.symbols l.list.items;
  len : vec_len l.list ≡ l.index;
  room : vec_capacity l.list ≡ vec_capacity l.fn.list;
}
