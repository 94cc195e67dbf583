-- A table of the values that a script gives names.
use Rattle.std.specs.Prelude.{◌≡◌, ℕ, List, Option}
use Rattle.ldmodel.specs.Layout.{Layout, script_value}
use Rattle.place.specs.terms.Tables.{entry_under, symbol_number}
use Rattle.emit_relocate.specs.declared.script_values.ScriptValues.{ScriptValues}

-- the value that a table has for a name
abbrev pub value_in : ScriptValues → List ℕ → Option ℕ
value_in v name = entry_under v.values.items (symbol_number v.script.now name)

-- they are those of a layout
pub record AreScriptValues (layout : Layout) (v : ScriptValues) : Type 0 where
  pub found : (name : List ℕ) → value_in v name ≡ script_value layout name
