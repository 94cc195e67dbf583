use Rattle.symres_table.proofs.Common.{ap, ends_in, sym, ◌∙◌}
use Rattle.symres_table.proofs.Cleared.{marked_stays}
use Rattle.symres_table.proofs.rows.clear_once.Goals as goal

pub returns-else-ends_in-clause-items : goal.returns-else-ends_in-clause-items
returns-else-ends_in-clause-items c = λ g.
    marked_stays c.args.key.0 c.args.row.now.items g
    (ap (ends_in c.args.key.0) (sym c.deref.ensures.value) ∙ sym c.if-ends_in.ensures)
