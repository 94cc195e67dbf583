use Rattle.symres_table.proofs.Common.{KnownNames, Some, ap, bytes_eq-Decides, slot, stored, sym, ◌∙◌}
use Rattle.symres_table.proofs.Pairs.{entry_named}
use Rattle.symres_table.proofs.name_table.NameTable.number_if.Goals as goal

pub returns-then-eq : goal.returns-then-eq
returns-then-eq c =
    let es = c.self.inside.numbers.entries in
    ap (λ (k : KnownNames). slot k.slots c.in-Some.number.now) (sym c.self.view_is)
    ∙ entry_named es (stored es c.self.inside.places.slots) c.args.place c.in-Some.key.now c.in-Some.number.now
    c.self.invariant.paired (sym c.in-Some.ensures.entry)
    ∙ ap Some (sym c.as_slice.ensures.value
    ∙ (bytes_eq-Decides c.as_slice.result.now c.args.name.now).0 (sym c.if-eq.ensures))
