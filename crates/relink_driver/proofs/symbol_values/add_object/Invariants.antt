use Rattle.relink_driver.proofs.Common.{vec_capacity, vec_len, ◌+◌, ◌≤◌}
use Rattle.relink_driver.proofs.Symbols.{ValuesSoFar}
use Rattle.relink_driver.proofs.symbol_values.add_object.Given as goal

abbrev pub invariant-loop-number : goal.invariant-loop-number
invariant-loop-number l = record {
  room : vec_len l.values + l.count ≤ vec_capacity l.values + l.number;
  so_far : ValuesSoFar l.sources l.place l.object l.fn.values.items l.number l.values.items;
}
