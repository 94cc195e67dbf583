use Rattle.symres.proofs.Common.{place_case}
use Rattle.symres.proofs.Placing.{has_placed, named_by_place, seen_by_key}
use Rattle.symres.proofs.symbol_table.SymbolTable.key_of.Goals as goal

pub key_at-requires : goal.key_at-requires
key_at-requires c =
    seen_by_key c.self.inside.decisions.names.objects c.args.place.0 c.args.symbol.0
    (rw (← c.self.view_is) at c.requires)

pub returns-clause-name : goal.returns-clause-name
returns-clause-name c =
    let seen = seen_by_key c.self.inside.decisions.names.objects c.args.place.0 c.args.symbol.0
    (rw (← c.self.view_is) at c.requires) in
    rw (← c.self.view_is)
    (named_by_place c.self.inside.decisions c.self.inside.order c.args.place.0 c.args.symbol.0 c.key_at.result.0
    seen.within c.key_at.ensures.name)

pub returns-clause-case : goal.returns-clause-case
returns-clause-case c =
    rw (← c.self.view_is)
    (has_placed (place_case c.self.inside.order) c.self.inside.decisions.cases c.key_at.result.0
    c.key_at.ensures.case)
