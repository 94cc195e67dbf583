use Rattle.symres.proofs.symbol_table.SymbolTable.forget.Goals as goal

pub returns-clause-kept : goal.returns-clause-kept
returns-clause-kept c = λ script kept.
    c.forget.ensures.kept script (rw (← c.self.view_is) at kept)
