use Rattle.relink_driver.proofs.Common.{None, is_some, slice_index_or, stayed_between, vec_capacity, vec_len, ◌+◌, ◌≤◌}
use Rattle.relink_driver.proofs.Columns.{RowSoFar}
use Rattle.relink_driver.proofs.WhollyStayed.{StillSoFar}
use Rattle.relink_driver.proofs.stayed_column.add_flags.Given as goal

abbrev pub invariant-loop-number : goal.invariant-loop-number
invariant-loop-number l = record {
  room : vec_len l.flags + l.count ≤ vec_capacity l.flags + l.number;
  slice : RowSoFar (λ k. is_some (stayed_between l.previous (slice_index_or l.before k None) l.link_layout
      (slice_index_or l.now k None))) l.fn.flags.items l.flags.items l.number;
  all_stayed : StillSoFar (λ k. is_some (stayed_between l.previous (slice_index_or l.before k None) l.link_layout
      (slice_index_or l.now k None))) l.now l.all_stayed l.number;
}
