-- The symbol tables of the objects of a link, each under the place of its object.
use Rattle.std.specs.Prelude.{ℕ, List}
use Rattle.std.specs.List.{enumerate_from}
use Rattle.elfobj.specs.Symbols.{NamedSymbol}
use Rattle.ldmodel.specs.Names.{symbol_tables}
use Rattle.ldmodel_project.specs.Inputs.{shown_inputs}
use Rattle.ldmodel_project.specs.declared.input.InputObject.{InputObject}

abbrev pub tables_of : List InputObject → List (ℕ × List NamedSymbol)
tables_of inputs = enumerate_from 0 (symbol_tables (shown_inputs inputs))
