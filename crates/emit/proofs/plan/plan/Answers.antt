use Rattle.emit.proofs.Common.{AllZip, Counts, Fields, IsPlannedAt, ap, evaluations, fault_at, get_or, raised}
use Rattle.emit.proofs.Common.{sites_in_all, sites_there, subst, sym, take, take_more, written_all, ◌+◌, ◌∙◌}
use Rattle.std.proofs.lemmas.Option.{slice_get-get_or}
use Rattle.emit.proofs.Planning.{both_raised, count_more, planned_more, within_more}
use Rattle.emit.proofs.Places.{none_at}
use Rattle.emit.proofs.plan.plan.Goals as goal

pub returns-in-None-clause-none : goal.returns-in-None-clause-none
returns-in-None-clause-none c = λ l o h.
    let before = (c.loop-spot.invariant.planned l o h).1 in
    let last = (rw c.in-None.is at c.in_ok-plan_section.ensures.none) l o h in
    record {
      evaluated = _;
      counted = last.counted ∙ ap (λ (m : Counts). raised m Fields last.evaluated) before
          ∙ both_raised c.args.meter.now _ last.evaluated;
      faulty = λ none. last.faulty (none_at (fault_at l)
          (sites_there o) c.args.located.now c.loop-spot.spot-index _ none
          (slice_get-get_or c.args.located.now c.loop-spot.spot-index
          (record { index = record { 0 = 0 }; start = 0; range = record { offset = 0; length = 0 } })
          c.loop-spot-test.true));
    }

pub loop-spot-preserved : goal.loop-spot-preserved
loop-spot-preserved c =
    let items = c.in_ok-push-in-Some.ensures.items in
    record {
      within = rw items
          (within_more c.args.limit c.loop-spot.sections.items c.in-Some.section c.loop-spot.invariant.within
          (rw c.in-Some.is at c.in_ok-plan_section.ensures.within));
      planned = λ k o h.
          let before = c.loop-spot.invariant.planned k o h in
          let last = (rw c.in-Some.is at c.in_ok-plan_section.ensures.planned) k o h in
          let low = c.loop-spot-test.true in (
            subst (λ rs. AllZip (IsPlannedAt k o) (take (c.loop-spot.spot-index + 1) c.args.located.now)
                (written_all rs)) (sym items)
                (planned_more k o c.args.located.now c.loop-spot.spot-index _ c.loop-spot.sections.items
                c.in-Some.section
                low before.0 last.0),
            last.1
                ∙ ap (λ (m : Counts). raised m Fields (evaluations k (sites_there o
                (get_or c.args.located.now c.loop-spot.spot-index
                (record { index = record { 0 = 0 }; start = 0; range = record { offset = 0; length = 0 } })))))
                before.1
                ∙ count_more k o (take c.loop-spot.spot-index c.args.located.now) _ c.args.meter.now
                ∙ ap (λ ts. raised c.args.meter.now Fields (evaluations k (sites_in_all o ts)))
                (sym (take_more c.args.located.now c.loop-spot.spot-index _ low)),
          );
    }
