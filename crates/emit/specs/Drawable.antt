-- A link without faults, whose image can be drawn.
use Rattle.std.specs.Prelude.{◌≤◌, Bool, List}
use Rattle.std.specs.List.{AllZip}
use Rattle.ldmodel.specs.Layout.{Layout}
use Rattle.ldmodel.specs.Link.{max_image_length}
use Rattle.ldmodel.specs.Project.{Project}
use Rattle.ldmodel.specs.SectionHeaders.{image_length}
use Rattle.ldmodel.specs.declared.sections.SectionRef.{SectionRef}
use Rattle.symres.specs.SymbolTable.{SymbolTableState}
use Rattle.emit.specs.declared.relocated.Relocated.{Relocated}
use Rattle.place.specs.IndexedLayout.{IsIndexedLayout}
use Rattle.place.specs.declared.indexed_layout.IndexedLayout.{IndexedLayout}
use Rattle.emit_relocate.specs.LinkView.{known_link}
use Rattle.emit_relocate.specs.LinkValues.{AreValues}
use Rattle.emit_relocate.specs.declared.values.Values.{Values}
use Rattle.emit.specs.Output.{IsOutput}
use Rattle.emit.specs.Runs.{AreRunsUnless}
use Rattle.emit.specs.declared.output.OutputDrawing.{OutputDrawing}

-- the places, the values, and the fields of what does not stay, of a project at a layout whose image is not too long
pub record IsDrawableAt (project : Project) (layout : Layout) (table : SymbolTableState) (x : IndexedLayout)
    (v : Values)
    (r : Relocated)
    (stays : SectionRef → Bool) : Type 0 where
  pub indexed_layout : IsIndexedLayout project layout x
  pub values : AreValues project layout table v
  pub fields : AreRunsUnless (known_link project layout table) stays r.patches.items r.ends.items
  pub short : image_length project layout ≤ max_image_length

-- the project has such a layout
pub record IsDrawable (project : Project) (x : IndexedLayout) (v : Values) (r : Relocated)
    (stays : SectionRef → Bool) : Type 0 where
  pub layout : Layout
  pub names : SymbolTableState
  pub is : IsDrawableAt project layout names x v r stays

-- the same, and these are its output sections, of which these input sections stay
pub record AreOutputs (project : Project) (x : IndexedLayout) (v : Values) (layout : Layout) (stays : SectionRef → Bool)
    (xs : List OutputDrawing) : Type 0 where
  pub names : SymbolTableState
  pub indexed_layout : IsIndexedLayout project layout x
  pub values : AreValues project layout names v
  pub short : image_length project layout ≤ max_image_length
  pub outputs : AllZip (IsOutput project layout stays) layout.sections xs

-- it has a layout with these output sections
pub record HasOutputs (project : Project) (x : IndexedLayout) (v : Values) (xs : List OutputDrawing) : Type 0 where
  pub layout : Layout
  pub stays : SectionRef → Bool
  pub are : AreOutputs project x v layout stays xs
