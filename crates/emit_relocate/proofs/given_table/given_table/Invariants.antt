use Rattle.emit_relocate.proofs.Giving.{Noted}
use Rattle.emit_relocate.proofs.given_table.given_table.Given as goal

-- the commands before this one are noted
abbrev pub invariant-loop-at : goal.invariant-loop-at
invariant-loop-at l = Noted l.symbol_table l.values l.at-index l.table.items
