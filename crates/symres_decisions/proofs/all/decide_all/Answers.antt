use Rattle.symres_decisions.proofs.Common.{IsNamed, List, [], ap, arith, get_or, length, raised, subst, ℕ, ◌<◌, ◌∙◌}
use Rattle.elfobj.specs.declared.meter.Count.TheVariants as counts
use Rattle.symres_decisions.proofs.Counting.{uses_all}
use Rattle.symres_decisions.proofs.Deciding.{all_complete, all_counted, all_sound, none_decided, one_decided}
use Rattle.symres_decisions.proofs.Listed.{named_listed}
use Rattle.symres_decisions.proofs.all.decide_all.Goals as goal

pub loop-number-init : goal.loop-number-init
loop-number-init c =
    none_decided c.args.script.now c.args.names.now c.args.cases.now c.args.meter.now
    (omega (arith, c.names-names.ensures, c.names-names.type_inv)) c.requires.only

pub case_for-case-requires : goal.case_for-case-requires
case_for-case-requires c =
    named_listed c.args.names.now.names c.args.names.now.order c.loop-number.number c.key_listed-key.result.0 ([], 0)
    c.known-count.ensures.listing (omega (arith, c.loop-number-test.true, c.known-count.ensures.len))
    (c.key_listed-key.ensures ([], 0))

pub set-requires : goal.set-requires
set-requires c =
    omega (
      arith,
      c.requires.room c.key_listed-key.result.0 c.case_for-case.ensures.case.named,
      c.loop-number.invariant.long,
    )

pub loop-number-preserved : goal.loop-number-preserved
loop-number-preserved c =
    let s = c.args.names.now in
    let within : c.loop-number.number < length s.order =
    omega (arith, c.loop-number-test.true, c.known-count.ensures.len) in
    rw c.set.ensures
    (one_decided c.args.script.now s c.args.cases.now c.loop-number.cases c.args.meter.now c.loop-number.meter
    c.case_for-case.new.meter c.loop-number.number c.key_listed-key.result.0 c.case_for-case.result within
    (omega (
      arith,
      c.requires.room c.key_listed-key.result.0 c.case_for-case.ensures.case.named,
      c.loop-number.invariant.long,
    ))
    c.case_for-case.ensures.case c.key_listed-key.ensures
    (λ e.
    let name : List ℕ = (get_or s.order c.loop-number.number e).0 in
    c.case_for-case.ensures.counted name
    (subst (λ (k : ℕ). IsNamed s.names k name) (c.key_listed-key.ensures e)
    (c.known-count.ensures.listing.sound c.loop-number.number e within)))
    c.loop-number.invariant)

pub returns-clause-sound : goal.returns-clause-sound
returns-clause-sound c =
    all_sound c.args.script.now c.args.names.now c.args.cases.now c.loop-number.cases c.args.meter.now
    c.loop-number.meter c.loop-number.number (omega (arith, c.loop-number-test.false, c.known-count.ensures.len))
    c.known-count.ensures.listing c.loop-number.invariant

pub returns-clause-complete : goal.returns-clause-complete
returns-clause-complete c =
    all_complete c.args.script.now c.args.names.now c.args.cases.now c.loop-number.cases c.args.meter.now
    c.loop-number.meter c.loop-number.number (omega (arith, c.loop-number-test.false, c.known-count.ensures.len))
    c.known-count.ensures.listing c.loop-number.invariant

pub returns-clause-counted : goal.returns-clause-counted
returns-clause-counted c =
    let s = c.args.names.now in
    all_counted c.args.script.now s c.args.cases.now c.loop-number.cases c.args.meter.now c.loop-number.meter
    c.loop-number.number (omega (arith, c.loop-number-test.false, c.known-count.ensures.len)) c.loop-number.invariant
    ∙ ap (raised c.args.meter.now counts.Names)
    (uses_all s.names s.objects s.order c.known-count.ensures.listing c.known-count.ensures.unknown)
