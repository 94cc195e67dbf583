use Rattle.ldi.proofs.Sent.{answered, ran}
use Rattle.ldi.proofs.session_command.answer.Goals as goal

pub returns-clause-answers : goal.returns-clause-answers
returns-clause-answers g c =
    answered (g.L.Linker.project c.args.linker.now) (g.R.Read.remaining c.args.reader)
    (g.W.Write.contents c.args.writer) c.run-outcome.new.sink (g.L.Linker.project c.run-outcome.new.linker)
    c.run-outcome.result
    (rw (c.in_ok-source.ensures, c.in_ok-sink.ensures) at c.run-outcome.ensures.answers)
    (rw c.in_ok-sink.ensures at c.run-outcome.ensures.flushed)

pub returns-clause-ran : goal.returns-clause-ran
returns-clause-ran g c = record {
  last = g.L.Linker.project c.run-outcome.new.linker;
  ran = ran (g.R.Read.remaining c.args.reader) (g.W.Write.contents c.args.writer)
      (g.L.Linker.project c.args.linker.now) _ c.run-outcome.result
      (rw (c.in_ok-source.ensures, c.in_ok-sink.ensures) at c.run-outcome.ensures.ran);
  sent = rw c.in_ok-sink.ensures at c.run-outcome.ensures.flushed;
}
