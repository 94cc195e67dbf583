use Rattle.symres.proofs.Common.{length, map, named_number, take, vec_capacity, vec_len, ◌≡◌, ◌≤◌}
use Rattle.symres.proofs.sorted.written.Given as goal

-- the names before this place, and room for all
abbrev pub invariant-loop-place : goal.invariant-loop-place
invariant-loop-place l = record {
  same : map named_number l.list.items ≡ take l.place l.text;
  len : vec_len l.list ≡ l.place;
  room : length l.text ≤ vec_capacity l.list;
}
