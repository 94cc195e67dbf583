use Rattle.symres_table.proofs.Common.{KnownNames, ap, entry_spelled, map, take, ◌∙◌}
use Rattle.symres_table.proofs.Cutting.{map_take}
use Rattle.symres_table.proofs.PlacesByNumber.{filed_cut}
use Rattle.symres_table.proofs.name_table.NameTable.drop_newer.Goals as goal

pub invariant_of-self : goal.invariant_of-self
invariant_of-self c =
    filed_cut c.args.count c.self.inside.numbers.entries c.truncate.new.self.entries c.self.inside.places.slots
    c.drop_from.new.places.slots c.self.invariant c.truncate.ensures.entries c.drop_from.ensures

pub returns : goal.returns
returns c = ap (map entry_spelled) c.truncate.ensures.entries ∙ map_take c.args.count c.self.inside.numbers.entries
    ∙ ap (λ (k : KnownNames). take c.args.count k.order) c.self.view_is
