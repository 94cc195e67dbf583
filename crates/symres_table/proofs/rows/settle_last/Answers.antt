use Rattle.symres_table.proofs.Common.{false≢true, sym, ◌∙◌}
use Rattle.symres_table.proofs.Settling.{settled_same, last_found}
use Rattle.symres_table.proofs.rows.settle_last.Goals as goal

pub returns-then-ends_with-clause-settled : goal.returns-then-ends_with-clause-settled
returns-then-ends_with-clause-settled c = λ fs bs os a e.
    settled_same c.args.places.now c.args.at c.args.key.0 c.args.symbol.number c.args.row.now c.settle.new.row fs bs os
    a e (sym c.if-ends_with.ensures) c.settle.ensures

pub returns-else-ends_with-clause-last : goal.returns-else-ends_with-clause-last
returns-else-ends_with-clause-last c = λ fs bs os a e.
    absurd (false≢true (c.if-ends_with.ensures ∙ last_found c.args.key.0 c.args.symbol c.args.row.now fs bs os e))
