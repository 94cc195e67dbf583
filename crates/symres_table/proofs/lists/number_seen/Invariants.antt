use Rattle.symres_table.proofs.Common.{List, Option, Spells, SpellsSeen, filter, is_seen, length, take, vec_capacity}
use Rattle.symres_table.proofs.Common.{vec_len, ℕ, ◌≡◌}
use Rattle.symres_table.proofs.lists.number_seen.Given as goal

abbrev pub invariant-loop-index : goal.invariant-loop-index
invariant-loop-index l = record {
  at : l.at ≡ length (filter is_seen (take l.index l.object.symbols));
  spelled : (names : List (Option (List ℕ))) → SpellsSeen names l.seen l.object.symbols
      → Spells names l.list.items (take l.index l.object.symbols);
  len : vec_len l.list ≡ l.index;
  room : vec_capacity l.list ≡ vec_capacity l.fn.list;
}
