use Rattle.place_terms.proofs.Common.{Numbered, ap, named, option_and_then, risen, sym, value_of, value_under, ◌∙◌}
use Rattle.place_terms.proofs.InTurn.{value_by_name}
use Rattle.place_terms.proofs.symbols.AssignedSymbols.value.Goals as goal

pub returns-in_err-number : goal.returns-in_err-number
returns-in_err-number c =
    let same = ap (λ (v : Numbered). value_of (named v) c.args.name.now) c.self.view_is in
    let found = value_by_name c.self.inside.commands c.self.inside.list.items c.self.invariant.found c.args.name.now in
    let none = ap (option_and_then (value_under c.self.inside.list.items)) (sym c.in_err-number.ensures) in
    c.from_residual.ensures ∙ sym (sym same ∙ (found ∙ none))

pub value_given-requires : goal.value_given-requires
value_given-requires c =
    record { next = c.self.inside.next; is = ap (risen 0) c.deref.ensures.value ∙ c.self.invariant.turns }

pub returns : goal.returns
returns c =
    let same = ap (λ (v : Numbered). value_of (named v) c.args.name.now) c.self.view_is in
    let found = value_by_name c.self.inside.commands c.self.inside.list.items c.self.invariant.found c.args.name.now in
    let some = ap (option_and_then (value_under c.self.inside.list.items)) (sym c.in_ok-number.ensures) in
    let here = ap (λ xs. value_under xs c.in_ok-number.number) c.deref.ensures.value in
    c.value_given.ensures ∙ (here ∙ sym (sym same ∙ (found ∙ some)))
