use Rattle.symres_decisions.proofs.Common.{HasCase, [], ap, arith, cases_lt, get_or, subst, sym, ℕ, ⊎_elim, ◌∙◌, ◌≡◌}
use Rattle.symres_decisions.proofs.Listed.{named_listed}
use Rattle.symres_decisions.proofs.MakingRoom.{unused_at}
use Rattle.symres_decisions.proofs.room.add_all_given.Goals as goal

pub add_given-requires-clause-named : goal.add_given-requires-clause-named
add_given-requires-clause-named c =
    named_listed c.args.names.now.names c.args.names.now.order c.loop-place.place c.key_listed.result.0 ([], 0)
    c.known-count.ensures.listing (omega (arith, c.loop-place-test.true, c.known-count.ensures.len))
    (c.key_listed.ensures ([], 0))

pub add_given-requires-clause-unused : goal.add_given-requires-clause-unused
add_given-requires-clause-unused c =
    unused_at c.args.names.now c.args.from c.loop-place.place c.key_listed.result.0 ([], 0)
    c.known-count.ensures.listing c.requires (omega arith)
    (omega (arith, c.loop-place-test.true, c.known-count.ensures.len)) (c.key_listed.ensures ([], 0))

pub loop-place-preserved : goal.loop-place-preserved
loop-place-preserved c = record {
  sound = λ h. c.add_given.ensures.sound (c.loop-place.invariant.sound h);
  kept = λ k h. c.add_given.ensures.kept k (c.loop-place.invariant.kept k h);
  done = λ i e le l.
      ⊎_elim
      (λ lt.
      c.add_given.ensures.kept (get_or c.args.names.now.order i e).1 (c.loop-place.invariant.done i e le lt))
      (λ ge.
      let at : i ≡ c.loop-place.place = omega (arith, ge, l) in
      let key : (get_or c.args.names.now.order i e).1 ≡ c.key_listed.result.0 =
      ap (λ (j : ℕ). (get_or c.args.names.now.order j e).1) at ∙ c.key_listed.ensures e in
      subst (HasCase c.add_given.new.cases) (sym key) c.in_ok-add_given.ensures.ok)
      (cases_lt i c.loop-place.place);
}

pub returns-clause-ok : goal.returns-clause-ok
returns-clause-ok c = λ i e le l.
    c.loop-place.invariant.done i e le (omega (arith, l, c.loop-place-test.false, c.known-count.ensures.len))
