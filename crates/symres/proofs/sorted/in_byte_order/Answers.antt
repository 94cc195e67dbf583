use Rattle.symres.proofs.Common.{AreInOrder, Global, IfOk-weaker, NamedKey, Vec, map, named_number, subst, sym, ◌≡◌}
use Rattle.symres.proofs.sorted.in_byte_order.Goals as goal

pub returns-in-Some : goal.returns-in-Some
returns-in-Some c =
    let order = c.args.decisions.now.names.order in
    IfOk-weaker c.written.result (λ (x : Vec NamedKey Global). map named_number x.items ≡ c.in-Some.text.now)
    (λ (x : Vec NamedKey Global). AreInOrder order (map named_number x.items))
    (λ x e. subst (AreInOrder order) (sym e) c.in-Some.ensures)
    c.written.ensures
