use Rattle.symres_table.proofs.Common.{AddsNames, AreOf, KeepsNames, SpellsSeen, take}
use Rattle.symres_table.proofs.lists.number_new.Given as goal

abbrev pub invariant-loop-number : goal.invariant-loop-number
invariant-loop-number l = record {
  spelled : SpellsSeen l.known.slots l.list.items (take l.number l.object.symbols);
  of : AreOf l.known.slots l.object.symbols l.list.items;
  told : AreOf l.known.slots l.object.symbols l.hinted.items;
  kept : KeepsNames l.fn.known.slots l.known.slots;
  added : AddsNames l.fn.known l.known;
}
