use Rattle.symres_table.proofs.Common.{ObjectsState, ap, arith, entries, length, sym, ◌∙◌, ◌≤◌}
use Rattle.symres_table.proofs.Growing.{entries_past}
use Rattle.symres_table.proofs.objects.Objects.row.Goals as goal

pub returns-in-None : goal.returns-in-None
returns-in-None c =
    let a = c.self.inside in
    let w : length a.rows.items ≤ c.args.name =
    omega (arith, c.in-None.ensures.lookup, ap length c.deref.ensures.value) in
    sym (entries_past (length a.rows.items) c.args.name a.order.items w c.self.invariant.known)
    ∙ ap (λ (s : ObjectsState). entries c.args.name s.objects) c.self.view_is
