-- How much the tail of an image has of names and symbols.
use Rattle.std.specs.Prelude.{ℕ, ◌+◌, List, length, sum_by, Option, filter_map}
use Rattle.ldmodel.specs.Project.{Project}
use Rattle.ldmodel.specs.Tail.{ValuedSymbol, with_value}
use Rattle.emit_relocate.specs.Values.{value_of}
use Rattle.emit_relocate.specs.SymbolRows.{value_in}
use Rattle.emit_relocate.specs.LinkValues.{shown_symbol}
use Rattle.emit_relocate.specs.declared.values.OutputSymbol.{OutputSymbol}

-- how many bytes names have, each with a zero byte after it
abbrev pub names_size : List (List ℕ) → ℕ
names_size names = sum_by (λ name. length name + 1) names

-- the symbol of a project, if it has a value
abbrev pub valued : Project → OutputSymbol → Option ValuedSymbol
valued project symbol = with_value (shown_symbol project symbol) (value_of (value_in symbol.row))

abbrev pub valued_in : Project → List OutputSymbol → List ValuedSymbol
valued_in project xs = filter_map (valued project) xs
