use Rattle.symres.proofs.Common.{Some, ap, option_map, place_case, sym, ◌∙◌}
use Rattle.symres.proofs.Placing.{case_placed}
use Rattle.symres.proofs.symbol_table.SymbolTable.case_of.Goals as goal

pub returns-in-Some : goal.returns-in-Some
returns-in-Some c =
    let f = place_case c.self.inside.order in
    rw (← c.self.view_is)
    (ap Some c.place_case.ensures
    ∙ ap (option_map f) (sym c.in-Some.is ∙ c.case_of.ensures.case)
    ∙ sym (case_placed f c.self.inside.decisions.cases c.args.key.0))

pub returns-in-None : goal.returns-in-None
returns-in-None c =
    let f = place_case c.self.inside.order in
    rw (← c.self.view_is)
    (ap (option_map f) (sym c.in-None.is ∙ c.case_of.ensures.case)
    ∙ sym (case_placed f c.self.inside.decisions.cases c.args.key.0))
