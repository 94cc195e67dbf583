use Rattle.symres.proofs.Common.{AreFound, declarations_of, enumerate_from, length, symbol_tables, take, ◌≡◌}
use Rattle.symres.proofs.symbol_table.SymbolTable.duplicates.Given as goal

-- the symbols of the objects before this one are seen to
abbrev pub invariant-loop-place : goal.invariant-loop-place
invariant-loop-place l = record {
  long : length l.firsts.items ≡ length l.self.cases;
  found : AreFound l.project l.self.names
      (declarations_of (take l.place (enumerate_from 0 (symbol_tables l.project.objects)))) l.firsts.items
      l.faults.items;
}
