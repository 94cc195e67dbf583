use Rattle.symres_table.proofs.Common.{State, ap, entries_of, slot, sym, ◌∙◌}
use Rattle.symres_table.proofs.Spelling.{entries_unknown}
use Rattle.symres_table.proofs.names.Names.known.Goals as goal

pub returns-clause-listing : goal.returns-clause-listing
returns-clause-listing c = rw (← c.self.view_is) c.len.ensures.listing

pub returns-clause-unknown : goal.returns-clause-unknown
returns-clause-unknown c = λ name h.
    let a = c.self.inside in
    sym (ap (λ (s : State). entries_of name s.objects) c.self.view_is)
    ∙ entries_unknown a.known.slots name a.objects.objects
    (λ k n. h k (sym (ap (λ (s : State). slot s.names k) c.self.view_is) ∙ n)) c.self.invariant.named
