use Rattle.symres_table.proofs.Common.{KnownNames, None, Some, Vec, ap, key_at, option_map, slot, spelled, sym, ℕ, ◌∙◌}
use Rattle.symres_table.proofs.Common.{◌≡◌}
use Rattle.std.proofs.Common.{Global}
use Rattle.symres_table.proofs.PlacesByNumber.{shown_at}
use Rattle.symres_table.proofs.name_table.NameTable.name_of.Goals as goal

pub returns-in-Some-get_index : goal.returns-in-Some-get_index
returns-in-Some-get_index c =
    let es = c.self.inside.numbers.entries in
    ap (λ (k : KnownNames). slot k.slots c.args.number) (sym c.self.view_is)
    ∙ shown_at es c.self.inside.places.slots c.args.number
    ∙ ap (λ o. spelled (key_at es o)) (sym c.in-Some.ensures)
    ∙ ap (λ o. spelled (option_map (λ (e : Vec ℕ Global × ℕ). e.0) o)) (sym c.in-Some-get_index.ensures.entry)
    ∙ ap Some (sym c.as_slice.ensures.value)

pub returns-in-None : goal.returns-in-None
returns-in-None c = λ name h.
    let es = c.self.inside.numbers.entries in
    let none : slot c.args.self.now.slots c.args.number ≡ None =
    ap (λ (k : KnownNames). slot k.slots c.args.number) (sym c.self.view_is)
    ∙ shown_at es c.self.inside.places.slots c.args.number
    ∙ ap (λ o. spelled (key_at es o)) (sym c.in-None.ensures) in
    absurd (cc)
