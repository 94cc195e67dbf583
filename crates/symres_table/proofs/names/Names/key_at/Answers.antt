use Rattle.symres_table.proofs.ByPlace.{named_at, number_within, place_within}
use Rattle.symres_table.proofs.names.Names.key_at.Goals as goal

pub symbol_in-requires-clause-place : goal.symbol_in-requires-clause-place
symbol_in-requires-clause-place c =
    place_within c.self.inside.known.slots c.self.inside.objects.objects c.args.place.0 c.args.symbol.0
    (rw (← c.self.view_is) at c.requires)

pub symbol_in-requires-clause-number : goal.symbol_in-requires-clause-number
symbol_in-requires-clause-number c = λ o.
    number_within c.self.inside.known.slots c.self.inside.objects.objects c.args.place.0 c.args.symbol.0 o
    (rw (← c.self.view_is) at c.requires)

pub returns : goal.returns
returns c = rw (← c.self.view_is)
    (named_at c.self.inside.known.slots c.self.inside.objects.objects c.args.place.0 c.args.symbol.0 c.symbol_in.result
    c.self.invariant.named (rw (← c.self.view_is) at c.requires) c.symbol_in.ensures)
