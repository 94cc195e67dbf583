use Rattle.symres_table.proofs.Common.{State, ap, entries_of, sym, ◌∙◌}
use Rattle.symres_table.proofs.Spelling.{entries_unknown}
use Rattle.symres_table.proofs.names.Names.key_named.Goals as goal

pub returns-in-None-clause-unknown : goal.returns-in-None-clause-unknown
returns-in-None-clause-unknown c =
    let a = c.self.inside in
    let name = c.args.name.now in
    sym (ap (λ (s : State). entries_of name s.objects) c.self.view_is)
    ∙ entries_unknown a.known.slots name a.objects.objects c.in-None.ensures.number c.self.invariant.named
