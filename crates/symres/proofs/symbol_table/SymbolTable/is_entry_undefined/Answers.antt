use Rattle.symres.proofs.Common.{ap, option_copied, sym, ◌∙◌}
use Rattle.symres.proofs.EntryFault.{entry_of_case, no_entry}
use Rattle.symres.proofs.symbol_table.SymbolTable.is_entry_undefined.Goals as goal

pub returns-in-Some : goal.returns-in-Some
returns-in-Some c =
    entry_of_case c.args.project.now c.in-Some.name.now c.case_named.result c.is_undefined.result
    (sym (ap option_copied c.in-Some.is) ∙ c.entry_symbol.ensures)
    (c.case_named.ensures.case c.args.project.now c.requires (sym c.script.ensures)) (sym c.is_undefined.ensures)

pub returns-in-None : goal.returns-in-None
returns-in-None c = no_entry c.args.project.now (sym (ap option_copied c.in-None.is) ∙ c.entry_symbol.ensures)
