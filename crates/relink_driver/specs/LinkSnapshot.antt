-- What is kept of a link without faults.
use Rattle.std.specs.Prelude.{◌≡◌, Ok}
use Rattle.ldmodel.specs.Stayed.{GoodLink}
use Rattle.ldmodel_laws.specs.Untouched.{IsGood}
use Rattle.ldmodel.specs.Edits.{AreNamesDistinct}
use Rattle.ldmodel.specs.Link as model
use Rattle.place.specs.IndexedLayout.{IsIndexedLayout}
use Rattle.emit.specs.relocate.SymbolValues.{AreSymbolValues}
use Rattle.relink_driver.specs.declared.link_snapshot.LinkSnapshot.{LinkSnapshot}

pub record IsLinkSnapshot (l : GoodLink) (g : LinkSnapshot) : Type 0 where
  pub good : IsGood l
  pub names : AreNamesDistinct l.project.objects
  pub indexed_layout : IsIndexedLayout l.project l.layout g.indexed_layout
  pub symbols : AreSymbolValues l.project l.layout g.symbols
  pub layout : model.layout l.project ≡ Ok l.layout
  pub link : model.link l.project ≡ model.good l.project l.layout
