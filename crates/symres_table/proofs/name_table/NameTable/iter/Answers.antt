use Rattle.symres_table.proofs.Common.{IsListing, KnownNames, ap, entry_spelled, map, stored, subst, ◌∙◌}
use Rattle.symres_table.proofs.Listing.{once_mapped, listing}
use Rattle.symres_table.proofs.Pairs.{consistent}
use Rattle.symres_table.proofs.name_table.NameTable.iter.Goals as goal

pub returns-clause-names : goal.returns-clause-names
returns-clause-names c = ap (map entry_spelled) c.iter.ensures.rest ∙ ap (λ (k : KnownNames). k.order) c.self.view_is

pub returns-clause-listing : goal.returns-clause-listing
returns-clause-listing c =
    let a = c.self.inside in
    subst (λ (k : KnownNames). IsListing k.slots k.order) c.self.view_is
    (listing _ (consistent a.numbers.entries (stored a.numbers.entries a.places.slots) c.self.invariant.paired)
    (once_mapped a.numbers.entries c.iter.ensures.unique))
