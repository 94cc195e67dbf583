use Rattle.std.proofs.Common.{[]}
use Rattle.ldmodel_deferred.specs.Answers.{holding}
use Rattle.ldi.proofs.SentDeferred.{answered, ran}
use Rattle.ldi.proofs.deferred_command.answer.Goals as goal

pub returns-clause-answers : goal.returns-clause-answers
returns-clause-answers g c =
    answered (holding (g.L.DeferredLinker.project c.args.linker.now) (g.L.DeferredLinker.last c.args.linker.now) [])
    (g.R.Read.remaining c.args.reader) (g.W.Write.contents c.args.writer) c.run_deferred-outcome.new.sink
    (g.L.DeferredLinker.project c.run_deferred-outcome.new.linker)
    (g.L.DeferredLinker.last c.run_deferred-outcome.new.linker) c.run_deferred-outcome.result
    (rw (c.in_ok-source.ensures, c.in_ok-sink.ensures) at c.run_deferred-outcome.ensures.answers)
    (rw c.in_ok-sink.ensures at c.run_deferred-outcome.ensures.flushed)

pub returns-clause-ran : goal.returns-clause-ran
returns-clause-ran g c =
    let end = rw (c.in_ok-source.ensures, c.in_ok-sink.ensures) at c.run_deferred-outcome.ensures.ran in
    record {
      last = holding (g.L.DeferredLinker.project c.run_deferred-outcome.new.linker)
          (g.L.DeferredLinker.last c.run_deferred-outcome.new.linker) end.0;
      ran = ran (g.R.Read.remaining c.args.reader) (g.W.Write.contents c.args.writer)
          (holding (g.L.DeferredLinker.project c.args.linker.now) (g.L.DeferredLinker.last c.args.linker.now) [])
          _ c.run_deferred-outcome.result end.1;
      sent = rw c.in_ok-sink.ensures at c.run_deferred-outcome.ensures.flushed;
    }
