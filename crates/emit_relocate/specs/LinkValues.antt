-- The values of the symbols of a link.
use Rattle.std.specs.Prelude.{◌≡◌, All, map}
use Rattle.ldmodel.specs.Layout.{Layout}
use Rattle.ldmodel.specs.Names.{decision}
use Rattle.ldmodel.specs.OutputSymbols as model
use Rattle.ldmodel.specs.OutputSymbols.{output_symbols}
use Rattle.ldmodel.specs.Project.{Project}
use Rattle.ldmodel.specs.SymbolValues.{entry_point}
use Rattle.symres.specs.SymbolTable.{SymbolTableState}
use Rattle.emit_relocate.specs.KnownLink.{AreNameValues}
use Rattle.emit_relocate.specs.Values.{value_of}
use Rattle.emit_text.specs.Definer.{definer_of}
use Rattle.emit_relocate.specs.LinkView.{known_link}
use Rattle.emit_relocate.specs.NameRows.{facts, shown_facts}
use Rattle.emit_relocate.specs.Sizes.{plus_symbols}
use Rattle.emit_relocate.specs.SymbolRows.{definer_in, facts_in, value_in}
use Rattle.emit_relocate.specs.declared.values.OutputSymbol.{OutputSymbol}
use Rattle.emit_relocate.specs.declared.values.Values.{Values}

-- a symbol of a project
abbrev pub shown_symbol : Project → OutputSymbol → model.OutputSymbol
shown_symbol project symbol = record {
  name = symbol.name.now;
  decision = decision project symbol.name.now;
  value = value_of (value_in symbol.row);
}

-- it has what defines its name, and what the symbol table says of what the name stands for
pub record HasFacts (project : Project) (layout : Layout) (symbol : OutputSymbol) : Type 0 where
  pub definer : definer_in symbol.row ≡ definer_of (decision project symbol.name.now)
  pub facts : shown_facts (facts_in symbol.row) ≡ facts project layout (decision project symbol.name.now)

-- they are those of the project at a layout, where names have the keys of a table
pub record AreValues (project : Project) (layout : Layout) (table : SymbolTableState) (v : Values) : Type 0 where
  pub names : AreNameValues (known_link project layout table) v.names.items
  pub entry : value_of v.entry ≡ entry_point project layout
  pub symbols : map (shown_symbol project) v.symbols.items ≡ output_symbols project layout
  pub facts : All (HasFacts project layout) v.symbols.items
  pub sizes : v.sizes ≡ plus_symbols (record { count = 0; names = 0 }) v.symbols.items
