use Rattle.symres_table.proofs.Common.{IsNamed, State, ap, declaration_of, entries_of, map, slot, sym, ◌∙◌}
use Rattle.symres_table.proofs.Spelling.{entries_spelled}
use Rattle.symres_table.proofs.names.Names.entries.Goals as goal

pub returns : goal.returns
returns c = λ bytes h.
    let a = c.self.inside in
    let named : IsNamed a.known.slots c.args.name.0 bytes =
    ap (λ (s : State). slot s.names c.args.name.0) c.self.view_is ∙ h in
    ap (map (declaration_of bytes)) c.row.ensures
    ∙ sym (entries_spelled a.known.slots c.args.name.0 bytes a.objects.objects c.len-known.ensures.distinct named
    c.self.invariant.named) ∙ ap (λ (s : State). entries_of bytes s.objects) c.self.view_is
