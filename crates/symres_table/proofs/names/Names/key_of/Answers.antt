use Rattle.symres_table.proofs.Joined.{has_key, name_is_of, no_none}
use Rattle.symres_table.proofs.names.Names.key_of.Goals as goal

pub symbol-requires : goal.symbol-requires
symbol-requires c = has_key c.self.inside.known.slots c.self.inside.objects.objects c.args.object.0
    (rw (← c.self.view_is) at c.requires.entered)

pub unreachable-requires : goal.unreachable-requires
unreachable-requires c =
    no_none c.self.inside.known.slots c.self.inside.objects.objects c.args.object.0 c.args.symbol.0 c.in-None.ensures
    (rw (← c.self.view_is) at c.requires.entered) (rw (← c.self.view_is) at c.requires.symbol)

pub returns : goal.returns
returns c = rw (← c.self.view_is)
    (name_is_of c.self.inside.known.slots c.self.inside.objects.objects c.args.object.0 c.args.symbol.0
    c.in-Some.symbol c.self.invariant.named c.in-Some.ensures (rw (← c.self.view_is) at c.requires.symbol))
