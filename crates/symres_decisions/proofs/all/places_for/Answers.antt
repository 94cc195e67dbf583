use Rattle.symres_decisions.proofs.Common.{[], ap, arith, cases_lt, get_or, ℕ, ⊎_elim, ◌∙◌, ◌≡◌}
use Rattle.symres_decisions.proofs.Listed.{Listed, StandsIn, stands_in}
use Rattle.symres_decisions.proofs.all.places_for.Goals as goal

pub loop-number-preserved : goal.loop-number-preserved
loop-number-preserved c = record {
  room = λ i e h.
      ⊎_elim
      (λ lt. omega (arith, c.loop-number.invariant.room i e lt, c.grow_to.ensures.more))
      (λ ge.
      let at : i ≡ c.loop-number.number = omega (arith, ge, h) in
      let key : (get_or c.args.names.now.order i e).1 ≡ c.key_listed.result.0 =
      ap (λ (j : ℕ). (get_or c.args.names.now.order j e).1) at ∙ c.key_listed.ensures e in
      omega (arith, key, c.in_ok-grow_to.ensures.ok))
      (cases_lt i c.loop-number.number);
  empty = λ k. c.grow_to.ensures.same k ∙ c.loop-number.invariant.empty k;
}

pub returns-clause-room : goal.returns-clause-room
returns-clause-room c = λ k h.
    let s = c.args.names.now in
    let at : StandsIn s.order k = stands_in s.names s.order k c.known-count.ensures.listing h in
    let e : Listed = ([], 0) in
    omega (
      arith,
      at.is e,
      c.loop-number.invariant.room at.at e
          (omega (arith, at.within, c.loop-number-test.false, c.known-count.ensures.len)),
    )
