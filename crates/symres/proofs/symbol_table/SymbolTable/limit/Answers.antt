use Rattle.symres.proofs.Common.{length-map, option_map, place_case, sym, ◌∙◌}
use Rattle.symres.proofs.symbol_table.SymbolTable.limit.Goals as goal

pub returns : goal.returns
returns c =
    rw (← c.self.view_is)
    (c.limit.ensures
    ∙ sym (length-map c.self.inside.decisions.cases (option_map (place_case c.self.inside.order))))
