use Rattle.ldi_deferred.proofs.Common.{Appends, flat_map, range_line, take, ◌≡◌}
use Rattle.ldi_deferred.proofs.answer.write_lines.Given as goal

abbrev pub invariant-loop-range : goal.invariant-loop-range
invariant-loop-range g l = record {
  wrote : Appends (g.W.Sink.written l.fn.sink) (g.W.Sink.written l.sink)
      (flat_map range_line (take l.range-index l.ranges));
  counted : g.W.Sink.failed l.sink ≡ g.W.Sink.failed l.fn.sink;
}
