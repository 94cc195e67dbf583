use Rattle.ldi_stream.proofs.Common.{Appends, length, take, ◌-◌, ◌≡◌, ◌≤◌}
use Rattle.ldi_stream.proofs.answer.write_all.Given as goal

abbrev pub invariant-loop-at : goal.invariant-loop-at
invariant-loop-at g l = record {
  within : l.at ≤ length l.bytes;
  wrote : Appends (g.W.Sink.written l.fn.sink) (g.W.Sink.written l.sink) (take l.at l.bytes);
  counted : g.W.Sink.failed l.sink ≡ g.W.Sink.failed l.fn.sink;
}

abbrev pub decreases-loop-at : goal.decreases-loop-at
decreases-loop-at g l = length l.bytes - l.at
