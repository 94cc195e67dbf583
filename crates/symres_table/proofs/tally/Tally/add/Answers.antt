use Rattle.symres_table.proofs.Common.{declaration_of, rules}
use Rattle.symres_table.proofs.Greatest.{common_later}
use Rattle.symres_table.proofs.tally.Tally.add.Goals as goal

pub returns-else-is_none : goal.returns-else-is_none
returns-else-is_none c = λ name seen h.
    rw (c.max-self.ensures, c.max-self-in-Common.ensures)
    (common_later seen (declaration_of name c.args.declared.now) c.args.self.now c.in-Common.is h
    (search (rules, c.is_none.ensures, c.if-is_none.false, c.if-is_none.ensures)))
