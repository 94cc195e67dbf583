use Rattle.elfobj.proofs.Common.{SymbolEntry, drop, length, table_of, take, ◌-◌}
use Rattle.elfobj.proofs.SymbolTables.{named_more}
use Rattle.elfobj.proofs.symbol_table.named_symbols.Goals as goal

null_entry : SymbolEntry
null_entry = record { st_name = 0; st_info = 0; st_shndx = 0; st_value = 0; st_size = 0 }

pub loop-entry-preserved : goal.loop-entry-preserved
unfolding null_entry
loop-entry-preserved c =
    named_more c.args.strings.now.file.now (table_of c.args.strings.now)
    (take (length c.args.entries.now - 1) (drop 1 c.args.entries.now)) c.loop-entry.entry-index null_entry
    c.loop-entry.symbols.symbols.items _ c.loop-entry.symbols.names.items _ c.symbol.result c.name_span.result
    c.loop-entry-test.true c.loop-entry.invariant
    c.symbol.ensures c.name_span.ensures.within c.name_span.ensures.name c.in_ok-push.ensures.symbols
    c.in_ok-push.ensures.names
