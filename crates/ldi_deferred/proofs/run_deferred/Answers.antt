use Rattle.ldi_deferred.proofs.Common.{Err, List, Long, Ran, RunFault, World, arith, err_from_is_err_and, holding, refl}
use Rattle.ldi_deferred.proofs.Common.{subst, world, ℕ, ◌∙◌}
use Rattle.ldi_deferred.proofs.DeferredEnds.{Answered, answered, flushed_fault, ran_fault, with_sent}
use Rattle.ldi_deferred.proofs.DeferredRuns.{at_start, at_start_length, one_more, one_more_length}
use Rattle.ldi_deferred.proofs.run_deferred.Goals as goal

pub loop-turn-init : goal.loop-turn-init
loop-turn-init g c =
    record { done = at_start _; turns = at_start_length _; flushed = λ e. e; read_counted = refl; write_counted = refl }

pub loop-turn-preserved : goal.loop-turn-preserved
loop-turn-preserved g c =
    let so_far = c.loop-turn.invariant in
    let served = rw c.in-Next.is at c.in_ok-serve_one.ensures.stepped in
    let counted = c.in_ok-serve_one.ensures.counted in
    record {
      done = one_more _ _ _ so_far.done served;
      turns = one_more_length _ _ _ so_far.done served ∙ (omega (arith, so_far.turns));
      flushed = λ e. c.in_ok-serve_one.ensures.flushed (so_far.flushed e);
      read_counted = counted.0 ∙ so_far.read_counted;
      write_counted = counted.1 ∙ so_far.write_counted;
    }

pub returns-in_err-serve_one-clause-ran : goal.returns-in_err-serve_one-clause-ran
returns-in_err-serve_one-clause-ran g c =
    let p = err_from_is_err_and c.from_residual.result c.from_residual.ensures.1 in
    let fault : RunFault = c.in_err-serve_one.field-0.0 in
    let start : List ℕ → World = λ sent. world (g.R.Source.rest c.args.source.now) (g.W.Sink.written c.args.sink.now)
    (holding (g.L.DeferredLinker.project c.args.linker.now) (g.L.DeferredLinker.last c.args.linker.now) sent) in
    let end : World = world (g.R.Source.rest c.serve_one.new.source) (g.W.Sink.written c.serve_one.new.sink)
    (holding (g.L.DeferredLinker.project c.serve_one.new.linker) (g.L.DeferredLinker.last c.serve_one.new.linker)
    c.serve_one.new.sent.items) in
    let ran : Ran (start c.new-sent.result.items) end (Err fault) =
    ran_fault (start c.new-sent.result.items) _ end fault c.loop-turn.invariant.done
    c.in_err-serve_one.ensures.stepped in
    rw (p.1, p.2) (
      c.serve_one.new.sent.items,
      subst (λ (sent : List ℕ). Ran (start sent) end (Err fault)) c.new-sent.ensures.items ran,
    )

pub returns-in_err-serve_one-clause-flushed : goal.returns-in_err-serve_one-clause-flushed
returns-in_err-serve_one-clause-flushed g c =
    let p = err_from_is_err_and c.from_residual.result c.from_residual.ensures.1 in
    rw (p.1, p.2) (flushed_fault _ _ _ c.in_err-serve_one.field-0.0 c.loop-turn.invariant.flushed
    c.in_err-serve_one.ensures.flushed)

pub returns-in-End-clause-answers : goal.returns-in-End-clause-answers
returns-in-End-clause-answers g c =
    let last = rw c.in-End.is at c.in_ok-serve_one.ensures.stepped in
    let start : List ℕ → World = λ sent. world (g.R.Source.rest c.args.source.now) (g.W.Sink.written c.args.sink.now)
    (holding (g.L.DeferredLinker.project c.args.linker.now) (g.L.DeferredLinker.last c.args.linker.now) sent) in
    let end : World = world (g.R.Source.rest c.serve_one.new.source) (g.W.Sink.written c.serve_one.new.sink)
    (holding (g.L.DeferredLinker.project c.serve_one.new.linker) (g.L.DeferredLinker.last c.serve_one.new.linker)
    c.serve_one.new.sent.items) in
    with_sent _ _ _ _ _ _ c.serve_one.new.sent.items c.in-End.status
    (subst (λ (sent : List ℕ). Answered (start sent) end c.in-End.status) c.new-sent.ensures.items
    (answered (start c.new-sent.result.items) end c.in-End.status (
      world (g.R.Source.rest c.loop-turn.source) (g.W.Sink.written c.loop-turn.sink)
          (holding (g.L.DeferredLinker.project c.loop-turn.linker) (g.L.DeferredLinker.last c.loop-turn.linker)
          c.loop-turn.sent.items),
      c.loop-turn.invariant.done,
      last,
    )))

pub returns-clause-ran : goal.returns-clause-ran
returns-clause-ran g c =
    let start : List ℕ → World = λ sent. world (g.R.Source.rest c.args.source.now) (g.W.Sink.written c.args.sink.now)
    (holding (g.L.DeferredLinker.project c.args.linker.now) (g.L.DeferredLinker.last c.args.linker.now) sent) in
    let end : World = world (g.R.Source.rest c.loop-turn.source) (g.W.Sink.written c.loop-turn.sink)
    (holding (g.L.DeferredLinker.project c.loop-turn.linker) (g.L.DeferredLinker.last c.loop-turn.linker)
    c.loop-turn.sent.items) in
    let ran : Ran (start c.new-sent.result.items) end (Err Long) = (c.loop-turn.invariant.done, omega arith) in (
      c.loop-turn.sent.items,
      subst (λ (sent : List ℕ). Ran (start sent) end (Err Long)) c.new-sent.ensures.items ran,
    )
