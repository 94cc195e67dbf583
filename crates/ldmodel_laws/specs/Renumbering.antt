-- Entries and decisions where objects have other numbers, as the keys of a table.
use Rattle.std.specs.Prelude.{◌≡◌, ℕ, List, map}
use Rattle.std.specs.List.{enumerate_from}
use Rattle.elfobj.specs.Symbols.{NamedSymbol}
use Rattle.ldmodel.specs.Names.{Entry, Declaration, Decision, Strong, Script, Common, Weak, Provided, Undefined}
use Rattle.ldmodel.specs.Names.{Duplicate, symbol_tables}
use Rattle.ldmodel.specs.Project.{NamedObject}

abbrev pub renumbered_entry : (ℕ → ℕ) → Entry → Entry
renumbered_entry number e = record e { object = number e.object }

abbrev pub renumbered : (ℕ → ℕ) → Declaration → Declaration
renumbered number d = record d { entry = renumbered_entry number d.entry }

abbrev pub renumbered_decision : (ℕ → ℕ) → Decision → Decision
renumbered_decision number (Strong e) = Strong (renumbered_entry number e)
renumbered_decision number Script = Script
renumbered_decision number (Common owner size alignment) = Common (renumbered_entry number owner) size alignment
renumbered_decision number (Weak e) = Weak (renumbered_entry number e)
renumbered_decision number Provided = Provided
renumbered_decision number Undefined = Undefined
renumbered_decision number Duplicate = Duplicate

abbrev pub renumbered_table : (ℕ → ℕ) → ℕ × List NamedSymbol → ℕ × List NamedSymbol
renumbered_table number table = (number table.0, table.1)

-- the tables are those of the objects, in their order and under keys; `number` gives the place of the object of a key
abbrev pub AreTablesOf : (ℕ → ℕ) → List NamedObject → List (ℕ × List NamedSymbol) → Type 0
AreTablesOf number objects tables = map (renumbered_table number) tables ≡ enumerate_from 0 (symbol_tables objects)
