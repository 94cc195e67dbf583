use Rattle.symres.proofs.Common.{AreFound, Begins, Declaration, IsSymbolTable, List, Project, all_entries}
use Rattle.symres.proofs.Common.{declarations_in, filter, is_seen, length, take, ◌++◌, ◌≡◌}
use Rattle.symres.proofs.symbol_table.SymbolTable.add_symbols.Given as goal

-- the symbols before this one are seen to
abbrev pub invariant-loop-number : goal.invariant-loop-number
invariant-loop-number l = record {
  long : length l.firsts.items ≡ length l.fn.firsts.items;
  found : (p : Project) (ds : List Declaration) → IsSymbolTable p l.self → p.script ≡ l.script
      → Begins p (ds ++ declarations_in (l.place.0, l.object.symbols))
      → AreFound p l.self.names ds l.fn.firsts.items l.fn.faults.items
      → AreFound p l.self.names (ds ++ filter is_seen (take l.number (all_entries (l.place.0, l.object.symbols))))
      l.firsts.items l.faults.items;
}
