-- The names are alike up to here.
use Rattle.gather.proofs.Common.{get_or, length, ℕ, ◌-◌, ◌<◌, ◌≡◌, ◌≤◌}
use Rattle.gather.proofs.shared_start.count_shared.Given as goal

abbrev pub invariant-loop-count : goal.invariant-loop-count
invariant-loop-count l = record {
  in_one : l.count ≤ length l.one;
  in_other : l.count ≤ length l.other;
  alike : (k : ℕ) → k < l.count → get_or l.one k 0 ≡ get_or l.other k 0;
}

abbrev pub decreases-loop-count : goal.decreases-loop-count
decreases-loop-count l = length l.one - l.count
