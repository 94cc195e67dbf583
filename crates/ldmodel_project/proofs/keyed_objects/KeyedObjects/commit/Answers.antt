use Rattle.ldmodel_project.proofs.Common.{Contents, KeysAreStable, List, Listed, ap, subst, sym}
use Rattle.ldmodel_project.proofs.Steps.{Fits-stable, Stepped-entries, Stepped-ordered}
use Rattle.ldmodel_project.proofs.keyed_objects.KeyedObjects.commit.Goals as goal

pub invariant_of-self : goal.invariant_of-self
invariant_of-self c =
    Stepped-ordered c.args.self.now c.args.staged c.self.inside.objects c.change.new.self c.self.inside.order.items
    (record {
      entries = ap (λ (k : Contents). k.entries) c.self.view_is;
      ordered = c.self.invariant;
      fits = c.requires;
      slots = c.change.ensures;
    })

pub returns-clause-next : goal.returns-clause-next
returns-clause-next c =
    Stepped-entries c.args.self.now c.args.staged c.self.inside.objects c.change.new.self c.self.inside.order.items
    (record {
      entries = ap (λ (k : Contents). k.entries) c.self.view_is;
      ordered = c.self.invariant;
      fits = c.requires;
      slots = c.change.ensures;
    })

pub returns-clause-stable : goal.returns-clause-stable
returns-clause-stable c =
    let next = Stepped-entries c.args.self.now c.args.staged c.self.inside.objects c.change.new.self
    c.self.inside.order.items
    (record {
      entries = ap (λ (k : Contents). k.entries) c.self.view_is;
      ordered = c.self.invariant;
      fits = c.requires;
      slots = c.change.ensures;
    }) in
    subst (λ (es : List Listed). KeysAreStable c.args.self.now.entries es) (sym next)
    (Fits-stable c.args.self.now c.args.staged c.requires)
