-- What the script gives names, and the order of names.
use Rattle.place.specs.LinkLayout.{IsLinkLayout}
use Rattle.place.specs.declared.link_layout.LinkLayout.{LinkLayout}
use Rattle.ldmodel.specs.Layout.{Layout}
use Rattle.ldmodel.specs.Project.{Project}
use Rattle.symres.specs.SymbolTable.{SymbolTableState}
use Rattle.symres.specs.Sorted.{AreSorted}
use Rattle.emit_relocate.specs.ScriptValues.{AreScriptValues}
use Rattle.emit_relocate.specs.declared.given.GivenValues.{GivenValues}

-- the values are those of the layout, and the names are all in byte order
pub record IsGiven (project : Project) (table : SymbolTableState) (l : LinkLayout) (g : GivenValues) : Type 0 where
  pub values : (layout : Layout) → IsLinkLayout project layout l → AreScriptValues layout g.values
  pub sorted : AreSorted table g.sorted.items
