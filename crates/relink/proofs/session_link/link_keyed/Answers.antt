use Rattle.relink.proofs.Common.{Global, HasRelinkOutcome, IsInPlaceOutcome, NamedObject, Option, PreviousState, Vec}
use Rattle.relink.proofs.Common.{ap, lent_of, map, previous_of, refl, subst, sym, true, ℕ, ◌∙◌, ◌≡◌}
use Rattle.relink_driver.specs.Rewritable.{IsRewritable}
use Rattle.relink_driver.specs.Worked.{HasWorked, IsWorkBeside}
use Rattle.relink_driver.specs.declared.driver.RelinkOutcome.{RelinkOutcome}
use Rattle.relink_driver.specs.declared.driver.RelinkOutcome.TheVariants as ended
use Rattle.relink_driver.specs.declared.link_snapshot.LinkSnapshot.{LinkSnapshot}
use Rattle.relink.proofs.Lending.{followed_again, followed_good}
use Rattle.relink.proofs.session_link.link_keyed.Goals as goal

not_rewritten : (e : RelinkOutcome) (g : LinkSnapshot) (m : Vec ℕ Global) → e ≡ ended.Good g m
    → e ≡ ended.RewrittenInPlace → ⊥
not_rewritten e g m is other = let none : ⊥ = cc in none

pub returns-clause-updated : goal.returns-clause-updated
returns-clause-updated c = λ l is keys.
    followed_good l c.args.project.now c.args.tables.keys.now c.relink.new.canvas.bytes
    (record {
      snapshot = c.in-Ok-Good.snapshot;
      origins = c.in_ok-origins.origins;
      names = c.names_in_room.result;
      same_script = true;
    })
    c.in-Ok-Good.map.items is keys c.requires.distinct
    (subst (HasRelinkOutcome c.args.project.now
    (previous_of c.view_previous-previous.result) c.args.canvas.now.bytes c.relink.new.canvas.bytes)
    c.in-Ok-Good.field-0-is c.in-Ok-Good.ensures.ended)
    (c.names_in_room.ensures ∙ ap (map (λ (o : NamedObject). o.name)) c.inputs-inputs.ensures.same)
    c.in_ok-origins.ensures
    (c.found_where_placed.ensures l.entries) refl

pub returns-clause-worked : goal.returns-clause-worked
returns-clause-worked c = (
  subst (λ (x : Option PreviousState). IsWorkBeside c.args.project.now x c.args.meter.now c.relink.new.meter)
      c.view_previous-previous.ensures
      (subst (HasWorked c.args.project.now (previous_of c.view_previous-previous.result) c.args.meter.now
      c.relink.new.meter) c.in-Ok-Good.field-0-is c.in-Ok-Good.ensures.worked),
  λ can. not_rewritten _ _ _ c.in-Ok-Good.field-0-is
      (c.in-Ok-Good.ensures.in_place
      (subst (IsRewritable c.args.project.now) (sym c.view_previous-previous.ensures) can)),
)

pub returns-in-Ok-RewrittenInPlace-clause-updated : goal.returns-in-Ok-RewrittenInPlace-clause-updated
returns-in-Ok-RewrittenInPlace-clause-updated c = λ l is keys.
    followed_again l c.args.project.now c.args.tables.keys.now (lent_of c.args.previous) c.relink.new.canvas.bytes
    c.in_ok-origins.origins.items is keys c.requires.distinct
    (subst (λ (x : Option PreviousState). IsInPlaceOutcome c.args.project.now x c.relink.new.canvas.bytes)
    c.view_previous-previous.ensures
    (subst (HasRelinkOutcome c.args.project.now
    (previous_of c.view_previous-previous.result) c.args.canvas.now.bytes c.relink.new.canvas.bytes)
    c.in-Ok-RewrittenInPlace.field-0-is c.in-Ok-RewrittenInPlace.ensures.ended)) c.in_ok-origins.ensures
    (c.found_where_placed.ensures l.entries)
