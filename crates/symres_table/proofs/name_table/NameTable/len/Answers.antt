use Rattle.symres_table.proofs.Common.{AreDistinct, IsConsistent, IsListing, KnownNames, stored, subst}
use Rattle.symres_table.proofs.Listing.{once_mapped, listing}
use Rattle.symres_table.proofs.Pairs.{distinct_law, consistent}
use Rattle.symres_table.proofs.name_table.NameTable.len.Goals as goal

pub returns-clause-consistent : goal.returns-clause-consistent
returns-clause-consistent c =
    subst IsConsistent c.self.view_is
    (consistent c.self.inside.numbers.entries
    (stored c.self.inside.numbers.entries c.self.inside.places.slots) c.self.invariant.paired)

pub returns-clause-distinct : goal.returns-clause-distinct
returns-clause-distinct c =
    subst (λ (k : KnownNames). AreDistinct k.slots) c.self.view_is
    (distinct_law c.self.inside.numbers.entries
    (stored c.self.inside.numbers.entries c.self.inside.places.slots) c.self.invariant.paired)

pub returns-clause-listing : goal.returns-clause-listing
returns-clause-listing c =
    subst (λ (k : KnownNames). IsListing k.slots k.order) c.self.view_is
    (listing _ (consistent c.self.inside.numbers.entries
    (stored c.self.inside.numbers.entries c.self.inside.places.slots) c.self.invariant.paired)
    (once_mapped c.self.inside.numbers.entries c.len.ensures.unique))
