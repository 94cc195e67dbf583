-- Those so far that have a value.
use Rattle.emit.proofs.Common.{All, AreTablesFor, HasFacts, Layout, Project, take, valued_in}
use Rattle.emit.proofs.symbols.symbol_tables.Given as goal

abbrev pub invariant-loop-symbol : goal.invariant-loop-symbol
invariant-loop-symbol l =
    (p : Project) (s : Layout) → All (HasFacts p s) l.symbol-items
    → AreTablesFor p s (valued_in p (take l.symbol-index l.symbol-items)) l.tables
