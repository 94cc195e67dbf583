-- The table of the symbols that a script has given values.
use Rattle.std.specs.Prelude.{◌≡◌, ℕ, ◌+◌, ◌≤◌, ◌==◌, nat_lt, List, [], ◌∷◌, map, Option, Some, None, find, bytes_eq}
use Rattle.std.specs.Prelude.{if◌then◌else◌}
use Rattle.std.specs.List.{All}
use Rattle.std.specs.Option.{option_map}
use Rattle.ldscript.specs.statements.declared.statement.Statement.{Statement}
use Rattle.ldmodel.specs.Layout.{ScriptSymbol}
use Rattle.ldmodel.specs.PlacementView.{name_given_by, symbol_of}
use Rattle.ldmodel.specs.declared.script_symbol.ScriptSymbol as code
use Rattle.place_terms.specs.Tables.{symbol_number, entry_under}

-- symbols under the numbers of the commands of a script that give them values
pub record Numbered : Type 0 where
  pub script : List Statement
  pub list : List code.ScriptSymbol

-- the same by name
abbrev pub named : Numbered → List ScriptSymbol
named s = map (symbol_of s.script) s.list

-- the number of a symbol's command is the one that is found by the symbol's name
abbrev pub IsFound : List Statement → code.ScriptSymbol → Type 0
IsFound script x = symbol_number script (name_given_by script x.command.0) ≡ Some x.command.0

abbrev pub AreFound : List Statement → List code.ScriptSymbol → Type 0
AreFound script symbols = All (λ (x : code.ScriptSymbol). IsFound script x) symbols

-- the value of the first symbol of a name
abbrev pub value_of : List ScriptSymbol → List ℕ → Option ℕ
value_of symbols name =
    option_map (λ (symbol : ScriptSymbol). symbol.value)
    (find (λ (symbol : ScriptSymbol). bytes_eq symbol.name name) symbols)

-- the value of the first symbol that the command of a number gives
abbrev pub value_under : List code.ScriptSymbol → ℕ → Option ℕ
value_under symbols number =
    option_map (λ (x : code.ScriptSymbol). x.value) (find (λ (x : code.ScriptSymbol). x.command.0 == number) symbols)

-- the number after those of the commands, as long as these rise from one on
abbrev pub risen : ℕ → List code.ScriptSymbol → Option ℕ
risen next [] = Some next
risen next (x ∷ xs) = if nat_lt x.command.0 next then None else risen (x.command.0 + 1) xs

-- the command of this number comes after theirs
abbrev pub ComesAfter : List code.ScriptSymbol → ℕ → Type 0
ComesAfter symbols number = (next : ℕ) → risen 0 symbols ≡ Some next → next ≤ number

-- the numbers of the commands rise
pub record Rises (symbols : List code.ScriptSymbol) : Type 0 where
  pub next : ℕ
  pub is : risen 0 symbols ≡ Some next

-- the table has under the number of a name the value that the name has
pub record AreValuesOf (script : List Statement) (values : List (Option ℕ)) (symbols : List ScriptSymbol) : Type 0 where
  pub found : (name : List ℕ) → entry_under values (symbol_number script name) ≡ value_of symbols name

-- symbols that are found, and whose commands come in turn, up to the next one
pub record AreInTurn (s : Numbered) (next : ℕ) : Type 0 where
  pub found : AreFound s.script s.list
  pub turns : risen 0 s.list ≡ Some next
