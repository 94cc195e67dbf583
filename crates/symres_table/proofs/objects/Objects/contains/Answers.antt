use Rattle.symres_table.proofs.Common.{None, Some, ap, place_of, sym, ◌∙◌, ◌≡◌}
use Rattle.symres_table.proofs.Placing.{is_entered, is_fresh}
use Rattle.symres_table.proofs.objects.Objects.contains.Goals as goal

pub returns-in-Some-clause-entered : goal.returns-in-Some-clause-entered
returns-in-Some-clause-entered c = λ h.
    let a = c.self.inside in
    let found : place_of a.places.items c.args.key.0 ≡ Some c.in-Some.field-0 =
    ap (λ ps. place_of ps c.args.key.0) (sym c.deref.ensures.value) ∙ sym c.find.ensures ∙ c.in-Some.is in
    rw (← c.self.view_is)
    (is_entered a.places.items a.order.items c.args.key.0 c.in-Some.field-0 c.self.invariant.numbered found)

pub returns-in-None-clause-fresh : goal.returns-in-None-clause-fresh
returns-in-None-clause-fresh c = λ h.
    let a = c.self.inside in
    let absent : place_of a.places.items c.args.key.0 ≡ None =
    ap (λ ps. place_of ps c.args.key.0) (sym c.deref.ensures.value) ∙ sym c.find.ensures ∙ c.in-None.is in
    rw (← c.self.view_is) (is_fresh a.places.items a.order.items c.args.key.0 c.self.invariant.numbered absent)
