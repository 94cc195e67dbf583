use Rattle.symres_decisions.proofs.Common.{AreDistinct, DecisionsState, IsFresh, ap, case_at, refl, slot, subst, sym}
use Rattle.symres_decisions.proofs.Common.{◌∙◌}
use Rattle.symres_decisions.proofs.Changed.{Steps, back_after, counted_after, frame_after, kept_after}
use Rattle.symres_decisions.proofs.Changed.{places_after}
use Rattle.symres_decisions.proofs.Changed.{text_after, used_put, whole_after}
use Rattle.symres_decisions.proofs.Clearing.{listed_apart}
use Rattle.symres_decisions.proofs.Exchanging.{in_names, out_known, out_names, out_objects}
use Rattle.symres_decisions.proofs.Tables.{out_fresh}
use Rattle.symres_decisions.proofs.decisions.Decisions.change.Goals as goal

pub clear_names_of-requires-clause-distinct : goal.clear_names_of-requires-clause-distinct
clear_names_of-requires-clause-distinct c =
    listed_apart c.self.inside.names.names c.self.inside.names.order c.known-known.ensures.listing

pub clear_names_of-requires-clause-room : goal.clear_names_of-requires-clause-room
clear_names_of-requires-clause-room c =
    places_after c.self.inside.names c.self.inside.names c.self.inside.cases c.self.inside.cases refl
    c.self.invariant.0.complete refl

pub put_in-requires-clause-fresh : goal.put_in-requires-clause-fresh
put_in-requires-clause-fresh c =
    let s = c.self.inside.names in
    let ch = c.args.change.now in
    let ready = rw (← c.self.view_is) at c.requires.ready in
    subst (IsFresh ch.key.0) (sym (out_objects s c.take_out.new.names ch.key.0 ch.out c.take_out.ensures))
    (out_fresh s.objects ch.key.0 ch.out ready.fits.out)

pub clear_names_of-requires-2-clause-distinct : goal.clear_names_of-requires-2-clause-distinct
clear_names_of-requires-2-clause-distinct c =
    let s = c.self.inside.names in
    let ch = c.args.change.now in
    subst AreDistinct
    (sym (in_names c.take_out.new.names c.put_in.new.names ch.key.0 ch.into c.put_in.ensures
    ∙ out_names s c.take_out.new.names ch.key.0 ch.out c.take_out.ensures))
    (listed_apart s.names s.order c.known-known.ensures.listing)

pub clear_names_of-requires-2-clause-room : goal.clear_names_of-requires-2-clause-room
clear_names_of-requires-2-clause-room c =
    let s = c.self.inside.names in
    let ch = c.args.change.now in
    places_after s c.put_in.new.names c.self.inside.cases c.clear_names_of.new.cases
    (in_names c.take_out.new.names c.put_in.new.names ch.key.0 ch.into c.put_in.ensures
    ∙ out_names s c.take_out.new.names ch.key.0 ch.out c.take_out.ensures)
    c.self.invariant.0.complete c.clear_names_of.ensures.long

pub decide_gone-requires-clause-known : goal.decide_gone-requires-clause-known
decide_gone-requires-clause-known c =
    let ch = c.args.change.now in
    let ready = rw (← c.self.view_is) at c.requires.ready in
    out_known c.self.inside.names c.take_out.new.names c.put_in.new.names ch.key.0 ch.out
    (in_names c.take_out.new.names c.put_in.new.names ch.key.0 ch.into c.put_in.ensures) ready.fits.out
    c.take_out.ensures

pub decide_gone-requires-clause-distinct : goal.decide_gone-requires-clause-distinct
decide_gone-requires-clause-distinct c =
    let s = c.self.inside.names in
    let ch = c.args.change.now in
    subst AreDistinct
    (sym (in_names c.take_out.new.names c.put_in.new.names ch.key.0 ch.into c.put_in.ensures
    ∙ out_names s c.take_out.new.names ch.key.0 ch.out c.take_out.ensures))
    (listed_apart s.names s.order c.known-known.ensures.listing)

pub decide_gone-requires-clause-room : goal.decide_gone-requires-clause-room
decide_gone-requires-clause-room c =
    let s = c.self.inside.names in
    let ch = c.args.change.now in
    places_after s c.put_in.new.names c.self.inside.cases c.clear_names_of-2.new.cases
    (in_names c.take_out.new.names c.put_in.new.names ch.key.0 ch.into c.put_in.ensures
    ∙ out_names s c.take_out.new.names ch.key.0 ch.out c.take_out.ensures)
    c.self.invariant.0.complete (c.clear_names_of-2.ensures.long ∙ c.clear_names_of.ensures.long)

pub decide_come-requires-clause-distinct : goal.decide_come-requires-clause-distinct
decide_come-requires-clause-distinct c =
    let s = c.self.inside.names in
    let ch = c.args.change.now in
    subst AreDistinct
    (sym (in_names c.take_out.new.names c.put_in.new.names ch.key.0 ch.into c.put_in.ensures
    ∙ out_names s c.take_out.new.names ch.key.0 ch.out c.take_out.ensures))
    (listed_apart s.names s.order c.known-known.ensures.listing)

pub decide_come-requires-clause-room : goal.decide_come-requires-clause-room
decide_come-requires-clause-room c =
    let s = c.self.inside.names in
    let ch = c.args.change.now in
    places_after s c.put_in.new.names c.self.inside.cases c.decide_gone.new.cases
    (in_names c.take_out.new.names c.put_in.new.names ch.key.0 ch.into c.put_in.ensures
    ∙ out_names s c.take_out.new.names ch.key.0 ch.out c.take_out.ensures)
    c.self.invariant.0.complete
    (c.decide_gone.ensures.long ∙ c.clear_names_of-2.ensures.long ∙ c.clear_names_of.ensures.long)

pub used_after_change-self-inside-requires-clause-known : goal.used_after_change-self-inside-requires-clause-known
used_after_change-self-inside-requires-clause-known c =
    let ch = c.args.change.now in
    let ready = rw (← c.self.view_is) at c.requires.ready in
    out_known c.self.inside.names c.take_out.new.names c.put_in.new.names ch.key.0 ch.out
    (in_names c.take_out.new.names c.put_in.new.names ch.key.0 ch.into c.put_in.ensures) ready.fits.out
    c.take_out.ensures

pub used_after_change-self-inside-requires-clause-still : goal.used_after_change-self-inside-requires-clause-still
used_after_change-self-inside-requires-clause-still c =
    let ready = rw (← c.self.view_is) at c.requires.ready in
    used_put c.self.inside.names c.take_out.new.names c.put_in.new.names c.args.change.now c.self.inside.used ready.fits
    c.take_out.ensures c.put_in.ensures c.self.invariant.1

steps : (c : goal.After-self-1)
    → Steps c.args.script.now c.args.change.now c.self.inside.names c.take_out.new.names c.put_in.new.names
    c.self.inside.cases c.clear_names_of.new.cases c.clear_names_of-2.new.cases c.decide_gone.new.cases
    c.decide_come.new.cases c.args.meter.now c.decide_gone.new.meter c.decide_come.new.meter
steps c = record {
  ready = rw (← c.self.view_is) at c.requires.ready;
  kept = rw (← c.self.view_is) at c.requires.kept;
  whole = c.self.invariant.0;
  cleared = c.clear_names_of.ensures;
  out = c.take_out.ensures;
  into = c.put_in.ensures;
  cleared_new = c.clear_names_of-2.ensures;
  gone = c.decide_gone.ensures.decided;
  come = c.decide_come.ensures.decided;
}

pub invariant_of-self : goal.invariant_of-self
invariant_of-self c = (
  whole_after _ _ _ _ _ _ _ _ _ _ _ _ _ (steps c),
  c.used_after_change-self-inside.ensures,
  text_after _ _ _ _ _ _ _ _ _ _ _ _ _ (steps c) _ c.self.invariant.2,
)

pub returns-clause-kept : goal.returns-clause-kept
returns-clause-kept c = kept_after _ _ _ _ _ _ _ _ _ _ _ _ _ (steps c)

pub returns-clause-counted : goal.returns-clause-counted
returns-clause-counted c = counted_after _ _ _ _ _ _ _ _ _ _ _ _ _ (steps c)

pub returns-clause-back : goal.returns-clause-back
returns-clause-back c = back_after _ _ _ _ _ _ _ _ _ _ _ _ _ (steps c) c.entered_again.ensures

pub returns-clause-frame : goal.returns-clause-frame
returns-clause-frame c = λ k name named a b.
    frame_after _ _ _ _ _ _ _ _ _ _ _ _ _ (steps c) k name
    (ap (λ (d : DecisionsState). slot d.names.names k) c.self.view_is ∙ named) a b
    ∙ ap (λ (d : DecisionsState). case_at d.cases k) c.self.view_is
