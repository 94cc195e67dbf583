-- What two links without faults have in common, byte by byte (this project's own).
use Rattle.std.specs.Prelude.{◌≡◌, ℕ, ◌+◌, ◌<◌, ◌≤◌, ◌⊎◌, List, [], Contains, Ok}
use Rattle.elfobj.specs.Object.{object_of}
use Rattle.elfobj.specs.RelocationKinds.{width}
use Rattle.ldmodel.specs.Edits.{AreNamesDistinct}
use Rattle.ldmodel.specs.Each.{Each}
use Rattle.ldmodel.specs.Link.{layout}
use Rattle.ldmodel.specs.Project.{NamedObject, Project}
use Rattle.ldmodel.specs.Relocations.{Site, relocation_faults, site_field, site_value}
use Rattle.ldmodel.specs.Stayed.{GoodLink, LinkedPiece, link_pieces, sites_in}
use Rattle.ldmodel_laws.specs.ImageBytes.{AreNamed}
use Rattle.ldmodel_laws.specs.PlacedOnce.{AreNumbered}
use Rattle.ldmodel_laws.specs.Spread.{IsSpread}

-- a site without a fault
abbrev pub HasField : GoodLink → Site → Type 0
HasField link site = (field : List ℕ) × (site_field link.project link.layout site ≡ Ok field)

-- objects are what their bytes spell
abbrev pub AreRead : Project → Type 0
AreRead project = Each (λ (object : NamedObject). object.object ≡ object_of object.object.text) project.objects

-- a site's symbol has one value in both links
abbrev pub HasSameValue : GoodLink → GoodLink → Site → Type 0
HasSameValue old new site = site_value old.project old.layout site ≡ site_value new.project new.layout site

-- nothing overlaps in an output section; output sections have different names; objects are what their bytes spell; each
-- site of an input section in the output has its field
pub record IsGood (link : GoodLink) : Type 0 where
  pub spread : Each IsSpread link.layout.sections
  pub named : AreNamed link.layout.sections
  pub read : AreRead link.project
  pub fields : (piece : LinkedPiece) → Contains (link_pieces link) piece
      → Each (HasField link) (sites_in link.project piece)

-- a link without faults of layout and relocation, of a project whose objects and script were read and whose objects
-- have different names
pub record IsFaultless (link : GoodLink) : Type 0 where
  pub layout : layout link.project ≡ Ok link.layout
  pub relocated : relocation_faults link.project link.layout ≡ []
  pub names : AreNamesDistinct link.project.objects
  pub numbers : AreNumbered link.project
  pub read : AreRead link.project
  pub named : AreNamed link.layout.sections

-- byte i of an input section lies outside the field of a site of it
abbrev pub IsOutside : ℕ → Site → Type 0
IsOutside i site = (i < site.relocation.offset) ⊎ (site.relocation.offset + width site.relocation.kind ≤ i)
