use Rattle.symres.proofs.Common.{place_case}
use Rattle.symres.proofs.Placing.{has_placed}
use Rattle.symres.proofs.Sorting.{differ}
use Rattle.symres.proofs.symbol_table.SymbolTable.keys_decided.Goals as goal

pub returns-clause-cases : goal.returns-clause-cases
returns-clause-cases c =
    rw (← c.self.view_is)
    (λ k name named.
    has_placed (place_case c.self.inside.order) c.self.inside.decisions.cases k
    (c.known-known.ensures.complete k (name, named)))

pub returns-clause-distinct : goal.returns-clause-distinct
returns-clause-distinct c =
    let names = c.self.inside.decisions.names in
    rw (← c.self.view_is) (differ names.names names.order c.known-known.ensures.listing)
