use Rattle.symres.proofs.Sorting.{differ}
use Rattle.symres.proofs.symbol_table.SymbolTable.names_differ.Goals as goal

pub returns : goal.returns
returns c =
    let d = c.self.inside.decisions in
    rw (← c.self.view_is) (differ d.names.names d.names.order c.listed-names.ensures.listing)
