use Rattle.symres_table.proofs.Common.{KnownNames, ap, arith, entry_spelled, get_or, length, length-map, sym, ◌<◌, ◌∙◌}
use Rattle.symres_table.proofs.PlacesByNumber.{listed_number}
use Rattle.symres_table.proofs.name_table.NameTable.number_listed.Goals as goal

pub returns : goal.returns
returns c = λ e.
    let es = c.self.inside.numbers.entries in
    let lt : c.args.place < length es =
    omega (
      arith,
      c.requires,
      ap (λ (k : KnownNames). length k.order) c.self.view_is,
      length-map es entry_spelled,
    ) in
    ap (λ (k : KnownNames). (get_or k.order c.args.place e).1) (sym c.self.view_is)
    ∙ listed_number es c.args.place c.number_at.result lt c.number_at.ensures e
