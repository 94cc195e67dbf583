use Rattle.ldi_stream.proofs.Common.{arith, refl, world, ◌∙◌}
use Rattle.ldi_stream.proofs.StreamRuns.{at_start, at_start_length, one_more, one_more_length}
use Rattle.ldi_stream.proofs.StreamEnds.{answered}
use Rattle.ldi_stream.proofs.run.Goals as goal

pub loop-turn-init : goal.loop-turn-init
loop-turn-init g c =
    record { done = at_start _; turns = at_start_length _; flushed = λ e. e; read_counted = refl; write_counted = refl }

pub loop-turn-preserved : goal.loop-turn-preserved
loop-turn-preserved g c =
    let so_far = c.loop-turn.invariant in
    let served = rw c.in-Next.is at c.in_ok-serve_one.ensures.stepped in
    let counted = c.in_ok-serve_one.ensures.counted in
    record {
      done = one_more _ _ _ so_far.done served;
      turns = one_more_length _ _ _ so_far.done served ∙ (omega (arith, so_far.turns));
      flushed = λ e. c.in_ok-serve_one.ensures.flushed (so_far.flushed e);
      read_counted = counted.0 ∙ so_far.read_counted;
      write_counted = counted.1 ∙ so_far.write_counted;
    }

pub returns-clause-ran : goal.returns-clause-ran
returns-clause-ran g c = (c.loop-turn.invariant.done, omega arith)

pub returns-in-End-clause-answers : goal.returns-in-End-clause-answers
returns-in-End-clause-answers g c =
    let last = rw c.in-End.is at c.in_ok-serve_one.ensures.stepped in
    answered (world (g.R.Source.rest c.args.source.now) (g.W.Sink.written c.args.sink.now)
    (g.L.Linker.project c.args.linker.now))
    (world (g.R.Source.rest c.serve_one.new.source) (g.W.Sink.written c.serve_one.new.sink)
    (g.L.Linker.project c.serve_one.new.linker)) c.in-End.status (
      world (g.R.Source.rest c.loop-turn.source) (g.W.Sink.written c.loop-turn.sink)
          (g.L.Linker.project c.loop-turn.linker),
      c.loop-turn.invariant.done,
      last,
    )
