use Rattle.symres_table.proofs.Common.{AreDistinct, IsNamed, KnownNames, MatchOption, Some, slot, stored, subst, ℕ, ◌∙◌}
use Rattle.symres_table.proofs.Common.{◌≢◌}
use Rattle.symres_table.proofs.Pairs.{number_law, distinct_law}
use Rattle.symres_table.proofs.name_table.NameTable.number_of.Goals as goal

pub returns-clause-distinct : goal.returns-clause-distinct
returns-clause-distinct c =
    subst (λ (k : KnownNames). AreDistinct k.slots) c.self.view_is
    (distinct_law c.self.inside.numbers.entries
    (stored c.self.inside.numbers.entries c.self.inside.places.slots) c.self.invariant.paired)

pub returns-clause-number : goal.returns-clause-number
returns-clause-number c =
    subst (λ (s : KnownNames).
    MatchOption c.copied.result ((n : ℕ) → slot s.slots n ≢ Some c.args.name.now) (λ n.
    IsNamed s.slots n c.args.name.now)) c.self.view_is
    (number_law c.self.inside.numbers.entries
    (stored c.self.inside.numbers.entries c.self.inside.places.slots) c.args.name.now c.copied.result
    c.self.invariant.paired (c.copied.ensures ∙ c.get.ensures.value))
