use Rattle.symres.proofs.Common.{ap, option_copied, sym, ◌∙◌}
use Rattle.symres.proofs.EntryFault.{entry_alone}
use Rattle.symres.proofs.symbol_table.SymbolTable.lacks_entry_alone.Goals as goal

pub returns-in-Some : goal.returns-in-Some
returns-in-Some c = λ undefined p is script options.
    entry_alone p c.args.view.now c.in-Some.name.now c.case_named.result script options
    (sym (ap option_copied c.in-Some.is) ∙ c.entry_symbol.ensures)
    (c.case_named.ensures.case p is (script ∙ sym c.script.ensures)) (sym c.is_undefined.ensures ∙ undefined)
    (c.has_doubled.ensures c.if-has_doubled.false p is)
