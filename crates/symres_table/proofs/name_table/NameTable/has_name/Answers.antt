use Rattle.symres_table.proofs.Common.{KnownNames, ap, is_some, slot, ◌∙◌}
use Rattle.symres_table.proofs.PlacesByNumber.{has_shown}
use Rattle.symres_table.proofs.name_table.NameTable.has_name.Goals as goal

pub returns : goal.returns
returns c =
    let a = c.self.inside in
    c.has_place.ensures
    ∙ has_shown a.numbers.entries a.places.slots c.self.invariant.within c.args.number
    ∙ ap (λ (k : KnownNames). is_some (slot k.slots c.args.number)) c.self.view_is
