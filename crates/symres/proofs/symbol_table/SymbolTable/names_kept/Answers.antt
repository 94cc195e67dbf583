use Rattle.symres.proofs.Placing.{kept_naming}
use Rattle.symres.proofs.symbol_table.SymbolTable.names_kept.Goals as goal

pub returns : goal.returns
returns c =
    let by = rw (← c.self.view_is) at c.decided_by_keys.ensures in
    rw (← c.self.view_is)
    (λ p kept same.
    kept_naming p c.self.inside.decisions c.self.inside.order c.self.invariant (λ name. by p name) kept same)
