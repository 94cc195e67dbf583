use Rattle.ldi_stream.proofs.Common.{Consumes, length, take, ◌-◌, ◌≡◌, ◌≤◌}
use Rattle.ldi_stream.proofs.payload.fill.Given as goal

abbrev pub invariant-loop-at : goal.invariant-loop-at
invariant-loop-at g l = record {
  within : l.at ≤ length l.buf;
  read : Consumes (g.R.Source.rest l.fn.source) (g.R.Source.rest l.source) (take l.at l.buf);
  counted : g.R.Source.failed l.source ≡ g.R.Source.failed l.fn.source;
}

abbrev pub decreases-loop-at : goal.decreases-loop-at
decreases-loop-at g l = length l.buf - l.at
