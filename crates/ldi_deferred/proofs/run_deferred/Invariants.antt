use Rattle.ldi_deferred.proofs.Common.{Progress, [], holding, length, world, ◌≡◌}
use Rattle.ldi_deferred.proofs.run_deferred.Given as goal

abbrev pub invariant-loop-turn : goal.invariant-loop-turn
invariant-loop-turn g l = record {
  done : Progress (world (g.R.Source.rest l.fn.source) (g.W.Sink.written l.fn.sink)
      (holding (g.L.DeferredLinker.project l.fn.linker) (g.L.DeferredLinker.last l.fn.linker)
      l.initial.sent.items))
      (world (g.R.Source.rest l.source) (g.W.Sink.written l.sink)
      (holding (g.L.DeferredLinker.project l.linker) (g.L.DeferredLinker.last l.linker) l.sent.items));
  turns : length done.commands ≡ l._turn;
  flushed : g.W.Sink.held l.fn.sink ≡ [] → g.W.Sink.held l.sink ≡ [];
  read_counted : g.R.Source.failed l.source ≡ g.R.Source.failed l.fn.source;
  write_counted : g.W.Sink.failed l.sink ≡ g.W.Sink.failed l.fn.sink;
}
