use Rattle.symres_decisions.proofs.Common.{case_at, count_by, is_doubled, length, ℕ, ◌+◌, ◌-◌, ◌≡◌, ◌≤◌}
use Rattle.symres_decisions.proofs.cases.Cases.grow_to.Given as goal

abbrev pub invariant-loop-key : goal.invariant-loop-key
invariant-loop-key l = record {
  same : (k : ℕ) → case_at l.self-inside.list.items k ≡ case_at l.fn.self k;
  more : length l.fn.self ≤ length l.self-inside.list.items;
  doubled : l.self-inside.doubled ≡ count_by is_doubled l.self-inside.list.items;
}

abbrev pub decreases-loop-key : goal.decreases-loop-key
decreases-loop-key l = l.key.0 + 1 - length l.self-inside.list.items
