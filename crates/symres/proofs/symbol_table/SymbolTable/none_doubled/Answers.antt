use Rattle.symres.proofs.Undoubled.{no_duplicates, none_twice}
use Rattle.symres.proofs.symbol_table.SymbolTable.none_doubled.Goals as goal

pub returns : goal.returns
returns c = λ p is.
    let d = c.self.inside.decisions in
    let by = rw (← c.self.view_is) at c.decided_by_keys.ensures in
    let none = rw (← c.self.view_is) at c.requires in
    let symbol_table = rw (← c.self.view_is) at is in
    no_duplicates p
    (none_twice p d c.self.inside.order (λ name. by p name) c.known-count.ensures.complete
    c.known-count.ensures.unknown none symbol_table)
