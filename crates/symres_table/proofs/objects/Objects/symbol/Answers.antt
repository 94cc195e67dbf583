use Rattle.symres_table.proofs.Common.{HasKey, ap, place_of, ◌∙◌}
use Rattle.symres_table.proofs.Placing.{here_at, is_found}
use Rattle.symres_table.proofs.objects.Objects.symbol.Goals as goal

pub unwrap-at-requires : goal.unwrap-at-requires
unwrap-at-requires c =
    let a = c.self.inside in
    let h : HasKey c.args.key.0 a.order.items = rw (← c.self.view_is) at c.requires in
    let f = here_at a.places.items a.order.items c.args.key.0 c.self.invariant.numbered h in
    is_found c.find.result h.0 (c.find.ensures ∙ ap (λ ps. place_of ps c.args.key.0) c.deref.ensures.value ∙ f.place_is)
