use Rattle.symres.proofs.Common.{AreInOrder, Global, IfOk-weaker, List, NamedKey, Vec, ap, compared_number, map}
use Rattle.symres.proofs.Common.{named_number, subst, sym, ◌∙◌, ◌≡◌}
use Rattle.symres_decisions.specs.declared.sorted_names.ComparedName.{ComparedName}
use Rattle.symres.proofs.sorted.sorted_list.Goals as goal

pub returns : goal.returns
returns c =
    let order = c.args.decisions.now.names.order in
    IfOk-weaker c.named.result
    (λ (x : Vec NamedKey Global). map named_number x.items ≡ map compared_number c.deref.result.now)
    (λ (x : Vec NamedKey Global). AreInOrder order (map named_number x.items))
    (λ x e.
    subst (AreInOrder order)
    (sym (e ∙ ap (λ (xs : List ComparedName). map compared_number xs) c.deref.ensures.value)) c.in_ok-list.ensures)
    c.named.ensures
