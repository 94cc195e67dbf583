use Rattle.ldmodel_project.proofs.Common.{Contents, Listed, ap, arith, is_some, map, objects_of, place_of, rules, sym}
use Rattle.ldmodel_project.proofs.Common.{true, ◌∙◌, ◌≡◌}
use Rattle.ldmodel_project.proofs.Places.{in_use, place_of-some, place_of-none, is_named_at}
use Rattle.ldmodel_project.proofs.Tagged.{none_named}
use Rattle.ldmodel_project.proofs.keyed_objects.KeyedObjects.place_of.Goals as goal

pub returns-then-eq-clause-place : goal.returns-then-eq-clause-place
returns-then-eq-clause-place c =
    let here : is_named_at c.self.inside.objects c.self.inside.order.items c.args.name.now c.loop-i.i ≡ true =
    search rules in
    sym (ap (λ (k : Contents). place_of (map (λ (e : Listed). e.named) k.entries) c.args.name.now) (sym c.self.view_is)
    ∙ place_of-some c.self.inside.objects c.self.inside.order.items c.args.name.now c.loop-i.i (omega arith)
    c.loop-i.invariant here)

pub returns-then-surely_lack-clause-place : goal.returns-then-surely_lack-clause-place
returns-then-surely_lack-clause-place c =
    sym (ap (λ (k : Contents). place_of (map (λ (e : Listed). e.named) k.entries) c.args.name.now) (sym c.self.view_is)
    ∙ place_of-none c.self.inside.objects c.self.inside.order.items c.args.name.now
    (none_named c.self.inside.objects c.self.inside.order.items c.args.name.now c.self.invariant
    (c.surely_lack.ensures c.if-surely_lack.true)))

pub returns-clause-place : goal.returns-clause-place
returns-clause-place c =
    sym (ap (λ (k : Contents). place_of (map (λ (e : Listed). e.named) k.entries) c.args.name.now) (sym c.self.view_is)
    ∙ place_of-none c.self.inside.objects c.self.inside.order.items c.args.name.now (λ k h.
    c.loop-i.invariant k (omega arith)))

pub returns-then-eq-clause-used : goal.returns-then-eq-clause-used
returns-then-eq-clause-used c = ap is_some (returns-then-eq-clause-place c)
    ∙ in_use (objects_of c.args.self.now.entries) c.args.name.now

pub returns-then-surely_lack-clause-used : goal.returns-then-surely_lack-clause-used
returns-then-surely_lack-clause-used c = ap is_some (returns-then-surely_lack-clause-place c)
    ∙ in_use (objects_of c.args.self.now.entries) c.args.name.now

pub returns-clause-used : goal.returns-clause-used
returns-clause-used c = ap is_some (returns-clause-place c)
    ∙ in_use (objects_of c.args.self.now.entries) c.args.name.now
