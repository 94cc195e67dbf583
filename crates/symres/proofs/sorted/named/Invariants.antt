use Rattle.symres.proofs.Common.{compared_number, length, map, named_number, take, vec_capacity, vec_len, ◌≡◌, ◌≤◌}
use Rattle.symres.proofs.sorted.named.Given as goal

-- the names before this place, and room for all
abbrev pub invariant-loop-compared : goal.invariant-loop-compared
invariant-loop-compared l = record {
  same : map named_number l.names.items ≡ map compared_number (take l.compared-index l.list);
  len : vec_len l.names ≡ l.compared-index;
  room : length l.list ≤ vec_capacity l.names;
}
