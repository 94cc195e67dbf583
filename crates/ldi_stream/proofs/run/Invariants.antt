use Rattle.ldi_stream.proofs.Common.{Progress, [], length, world, ◌≡◌}
use Rattle.ldi_stream.proofs.run.Given as goal

abbrev pub invariant-loop-turn : goal.invariant-loop-turn
invariant-loop-turn g l = record {
  done : Progress (world (g.R.Source.rest l.fn.source) (g.W.Sink.written l.fn.sink) (g.L.Linker.project l.fn.linker))
      (world (g.R.Source.rest l.source) (g.W.Sink.written l.sink) (g.L.Linker.project l.linker));
  turns : length done.commands ≡ l._turn;
  flushed : g.W.Sink.held l.fn.sink ≡ [] → g.W.Sink.held l.sink ≡ [];
  read_counted : g.R.Source.failed l.source ≡ g.R.Source.failed l.fn.source;
  write_counted : g.W.Sink.failed l.sink ≡ g.W.Sink.failed l.fn.sink;
}
