use Rattle.elfobj.proofs.Common.{AreNamed, map, named_symbol, null_symbol, table_of, take, ◌∷◌}
use Rattle.elfobj.proofs.symbol_table.named_symbols.Given as goal

abbrev pub invariant-loop-entry : goal.invariant-loop-entry
invariant-loop-entry l =
    AreNamed l.strings.file.now (null_symbol ∷ map (named_symbol (table_of l.strings)) (take l.entry-index l.rest))
    l.symbols.symbols.items l.symbols.names.items
