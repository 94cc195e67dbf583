use Rattle.emit_relocate.proofs.Common.{HasStayedAt, Some, ap, arith, refl, results_of, subst, ◌∙◌}
use Rattle.std.proofs.Common.{None}
use Rattle.emit_relocate.proofs.NoRelocations.{bare_added, bare_at_hand}
use Rattle.emit_relocate.proofs.Changing.{known_as, retained, retained_as}
use Rattle.emit_relocate.proofs.Moving.{moved_in_none}
use Rattle.emit_relocate.proofs.NothingToEvaluate.{settled_added}
use Rattle.emit_relocate.proofs.changed_fields.Links.add_evaluated.Goals as goal

pub returns-then-needs_none : goal.returns-then-needs_none
returns-then-needs_none g c =
    λ old l s k h is.
    settled_added old l (g.E.PreviousLinkInfo.range c.args.self.now.previous.now) s (is c.if-needs_none.true)
    (results_of c.args.fields.now c.args.meter.now) (omega (arith, c.fields-fields.type_inv, c.fields-fields.ensures))

pub returns-then-not-has_relocations : goal.returns-then-not-has_relocations
returns-then-not-has_relocations g c =
    λ old l s k h is.
    bare_added old l s
    (bare_at_hand l c.args.section.now s h
    (c.has_relocations.ensures ∙ ap Some c.if-not-has_relocations.true))
    (g.E.PreviousLinkInfo.range c.args.self.now.previous.now) c.args.section.now.place h.object_is
    (results_of c.args.fields.now c.args.meter.now) (omega (arith, c.fields-fields.type_inv, c.fields-fields.ensures))

pub returns-then-has_same_fields : goal.returns-then-has_same_fields
returns-then-has_same_fields g c =
    λ old l s k h _.
    let range = g.E.PreviousLinkInfo.range c.args.self.now.previous.now in
    let a = results_of c.args.fields.now c.args.meter.now in
    let is = c.has_same_fields.ensures c.if-has_same_fields.true old l s k h in
    retained_as old l range s c.args.section.now.place h.object_is is.0 a a (λ r kept.
    retained old l range s _ r a a kept.stayed refl refl
    (moved_in_none old l s c.args.section.now.place h.object_is is.1 r a.patches a.faults a.counts
    (omega (arith, c.fields-fields.type_inv, c.fields-fields.ensures))))

pub returns-in_ok-add_all_fields-in-None : goal.returns-in_ok-add_all_fields-in-None
returns-in_ok-add_all_fields-in-None g c =
    λ old l s k h _.
    let range = g.E.PreviousLinkInfo.range c.args.self.now.previous.now in
    known_as old l range s c.args.section.now.place h.object_is None
    (c.in-None.ensures.range ∙ ap range (c.section_ref.ensures l s h)) _ _
    (c.in_ok-add_all_fields-in-None.ensures old l s k h)

pub returns-in_ok-add_retargeted-in-Some : goal.returns-in_ok-add_retargeted-in-Some
returns-in_ok-add_retargeted-in-Some g c =
    λ old l s k h _.
    let range = g.E.PreviousLinkInfo.range c.args.self.now.previous.now in
    let same = c.section_ref.ensures l s h in
    let known = c.in-Some.ensures.range ∙ ap range same in
    known_as old l range s c.args.section.now.place h.object_is (Some c.in-Some.range) known _ _
    (c.in_ok-add_retargeted-in-Some.ensures old l s k h (record {
      known = known;
      stayed = subst (λ q. HasStayedAt old l q c.in-Some.range) same (c.in-Some.ensures.stayed old l k.previous);
    }))
