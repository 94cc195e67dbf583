use Rattle.symres_table.proofs.Common.{ap, ends_in, sym, ◌∙◌}
use Rattle.symres_table.proofs.Cleared.{as_it_was}
use Rattle.symres_table.proofs.rows.mark_last_once.Goals as goal

pub returns-else-not-ends_in : goal.returns-else-not-ends_in
returns-else-not-ends_in c =
    as_it_was c.args.key.0 c.args.row.now
    (ap (ends_in c.args.key.0) (sym c.deref.ensures.value) ∙ sym c.if-not-ends_in.ensures)
