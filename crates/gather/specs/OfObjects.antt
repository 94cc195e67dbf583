-- Input sections and the objects that they are of.
use Rattle.std.specs.Prelude.{◌≡◌, Some, slice_get}
use Rattle.ldmodel.specs.Project.{NamedObject, Project}
use Rattle.ldmodel.specs.Sections.{InputSection}

-- an input section is of the object at its place, and stands under the name of that
pub record IsOfObject (project : Project) (section : InputSection) : Type 0 where
  pub object : NamedObject
  pub at : slice_get project.objects section.id.object ≡ Some object
  pub name : object.name ≡ section.object
