use Rattle.symres.proofs.Common.{IsSymbolTable, Project, take, ◌≡◌}
use Rattle.ldscript.specs.statements.Numbering.{all_directives}
use Rattle.symres.specs.Provided.{names_in_force}
use Rattle.symres.proofs.Providing.{given}
use Rattle.symres.proofs.symbol_table.SymbolTable.provided.Given as goal

-- the commands before this one are seen to
abbrev pub invariant-loop-number : goal.invariant-loop-number
invariant-loop-number l =
    (p : Project) → IsSymbolTable p l.self → p.script ≡ l.script
    → given p l.list.items ≡ names_in_force p (take l.number (all_directives l.script))
