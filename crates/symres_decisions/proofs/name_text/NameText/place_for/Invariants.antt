use Rattle.symres_decisions.proofs.Common.{false, length, true, ℕ, ◌-◌, ◌<◌, ◌≡◌, ◌≤◌}
use Rattle.symres_decisions.proofs.ByteOrder.{precedes}
use Rattle.symres_decisions.proofs.Listed.{Listed}
use Rattle.symres_decisions.proofs.name_text.NameText.place_for.Given as goal

-- the names before `low` come before the name, and those from `high` on don't
abbrev pub invariant-loop-low : goal.invariant-loop-low
invariant-loop-low l = record {
  ordered : l.low ≤ l.high;
  within : l.high ≤ length l.self;
  before : (i : ℕ) (e : Listed) → i < l.low → precedes l.self i e l.name ≡ true;
  after : (i : ℕ) (e : Listed) → l.high ≤ i → i < length l.self → precedes l.self i e l.name ≡ false;
}

abbrev pub decreases-loop-low : goal.decreases-loop-low
decreases-loop-low l = l.high - l.low
