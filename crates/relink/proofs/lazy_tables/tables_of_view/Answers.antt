use Rattle.relink.proofs.Common.{AreTablesOf, List, Matches, NamedObject, ap, enumerate_from, subst, sym, symbol_tables}
use Rattle.relink.proofs.Common.{◌∙◌}
use Rattle.relink.proofs.LazyTables.{made_tables}
use Rattle.relink.proofs.lazy_tables.tables_of_view.Goals as goal

pub returns : goal.returns
returns c = λ l is places.
    subst (λ (ms : List Matches). AreTablesOf l c.in_ok-symbol_table.symbol_table ms) (sym c.from_vec.ensures.items)
    (made_tables c.args.project.now c.in_ok-symbol_table.symbol_table c.in_ok-matches.matches.items c.script.result.now
    (c.in_ok-symbol_table.ensures.objects
    ∙ ap (λ (os : List NamedObject). enumerate_from 0 (symbol_tables os)) c.inputs.ensures.same) c.script.ensures
    c.in_ok-symbol_table.ensures.kept c.in_ok-matches.ensures l is places)
