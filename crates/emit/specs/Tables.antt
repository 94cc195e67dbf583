-- The symbol table of symbols with values.
use Rattle.std.specs.Prelude.{List}
use Rattle.std.specs.List.{AllZip}
use Rattle.ldmodel.specs.Layout.{Layout}
use Rattle.ldmodel.specs.Project.{Project}
use Rattle.ldmodel.specs.Tail.{ValuedSymbol}
use Rattle.emit_image.specs.Tables.{AreTablesOf, IsTableSymbol}
use Rattle.emit_image.specs.declared.symbols.SymbolTables.{SymbolTables}
use Rattle.emit_image.specs.declared.symbols.TableSymbol.{TableSymbol}

-- they are the tables of what these symbols of a project are at a layout
pub record AreTablesFor (project : Project) (layout : Layout) (xs : List ValuedSymbol) (t : SymbolTables)
    : Type 0 where
  pub symbols : List TableSymbol
  pub each : AllZip (IsTableSymbol project layout) xs symbols
  pub tables : AreTablesOf symbols t
