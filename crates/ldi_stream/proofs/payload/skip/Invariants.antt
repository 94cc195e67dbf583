use Rattle.ldi_stream.proofs.Common.{Consumes, List, length, ℕ, ◌-◌, ◌≡◌, ◌≤◌}
use Rattle.ldi_stream.proofs.payload.skip.Given as goal

abbrev pub invariant-loop-at : goal.invariant-loop-at
invariant-loop-at g l = record {
  within : l.at ≤ l.count;
  room : length l.chunk ≡ 512;
  read : (bytes : List ℕ) × (length bytes ≡ l.at)
      × Consumes (g.R.Source.rest l.fn.source) (g.R.Source.rest l.source) bytes;
  counted : g.R.Source.failed l.source ≡ g.R.Source.failed l.fn.source;
}

abbrev pub decreases-loop-at : goal.decreases-loop-at
decreases-loop-at g l = l.count - l.at
