-- Input sections that differ, and stand in rows once.
use Rattle.std.specs.Prelude.{◌≡◌, false, ◌&&◌, ◌==◌, bytes_eq, Ok}
use Rattle.elfobj.specs.Sections.{LinkedSection}
use Rattle.ldmodel.specs.Edits.{AreNamesDistinct}
use Rattle.ldmodel.specs.Each.{Each}
use Rattle.ldmodel.specs.Layout.{Layout}
use Rattle.ldmodel.specs.Names.{provided}
use Rattle.ldmodel.specs.Placement.{placement}
use Rattle.ldmodel.specs.Project.{NamedObject, Project}
use Rattle.ldmodel.specs.Rows.{Piece, rows}
use Rattle.ldmodel.specs.Sections.{is_same_part}
use Rattle.ldmodel_laws.specs.Spread.{EachLater}

-- two entries of rows are not of one input section
abbrev pub Differ : Piece → Piece → Type 0
Differ x y = (bytes_eq x.object y.object && is_same_part x.part y.part) ≡ false

-- the sections of an object have different numbers, as they stand in the table of its headers
abbrev pub AreNumbered : Project → Type 0
AreNumbered project =
    Each (λ (object : NamedObject).
    EachLater (λ (section y : LinkedSection). (section.number.0 == y.number.0) ≡ false) object.object.sections)
    project.objects

-- a placement of the rows of a project whose objects and sections can be told apart: no input section stands in it
-- twice
pub record IsPlacedOnce (project : Project) (layout : Layout) : Type 0 where
  pub placed : placement project.script (rows project) (provided project) ≡ Ok layout
  pub names : AreNamesDistinct project.objects
  pub numbers : AreNumbered project
