use Rattle.symres_decisions.proofs.Common.{List, State, ap, arith, false, get_or, insert, length, length-map, subst}
use Rattle.symres_decisions.proofs.Common.{sym, table_of, tables_of, take, take_all, ℕ, ◌<◌, ◌==◌, ◌∙◌, ◌≡◌, ◌≤◌}
use Rattle.symres_decisions.proofs.Entering.{Table, fresh_at, length-first, one_entered}
use Rattle.symres_decisions.proofs.entered.enter_all.Goals as goal

pub add-requires-clause-at : goal.add-requires-clause-at
add-requires-clause-at c =
    let many : length (take c.loop-place.place (tables_of c.args.objects.now)) ≡ c.loop-place.place =
    length-first c.args.objects.now c.loop-place.place (omega (arith, c.loop-place-test.true)) in
    subst (λ (ts : List Table). c.loop-place.place ≤ length ts) (sym c.loop-place.invariant) (omega (arith, many))

pub add-requires-clause-fresh : goal.add-requires-clause-fresh
add-requires-clause-fresh c =
    subst (λ (ts : List Table). (k : ℕ) (d : Table) → k < length ts
    → ((get_or ts k d).0 == c.index-objects-place.result.key.0) ≡ false) (sym c.loop-place.invariant)
    (λ k d h.
    fresh_at c.args.objects.now c.loop-place.place k c.index-objects-place.result d c.requires
    (omega (arith, c.loop-place-test.true)) (sym c.index-objects-place.is) h)

pub loop-place-preserved : goal.loop-place-preserved
loop-place-preserved c =
    c.in_ok-add.ensures.objects
    ∙ (ap (λ (ts : List Table). insert ts c.loop-place.place (table_of c.index-objects-place.result))
    c.loop-place.invariant
    ∙ one_entered c.args.objects.now c.loop-place.place c.index-objects-place.result
    (omega (arith, c.loop-place-test.true)) (sym c.index-objects-place.is))

pub returns : goal.returns
returns c = record {
  objects = ap (λ (s : State). s.objects) c.end_entering.ensures
      ∙ (c.loop-place.invariant
      ∙ take_all c.loop-place.place (tables_of c.args.objects.now)
      (omega (arith, length-map c.args.objects.now table_of, c.loop-place-test.false)));
}
