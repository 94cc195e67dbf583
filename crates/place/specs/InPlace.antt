-- Layouts in which each input section stands once.
use Rattle.std.specs.Prelude.{◌≡◌, ◌<◌, ℕ, List, Contains, flat_map, map, length}
use Rattle.ldmodel.specs.Each.{Each}
use Rattle.ldmodel.specs.Layout.{Layout}
use Rattle.ldmodel.specs.Project.{NamedObject, Project}
use Rattle.ldmodel.specs.Rows.{Piece}
use Rattle.ldmodel_laws.specs.PlacedOnce.{Differ}
use Rattle.ldmodel_laws.specs.Spread.{EachLater, IsSpread, entries_in}

-- an object of the project has this name, which is not empty
pub record IsObjectName (project : Project) (name : List ℕ) : Type 0 where
  pub object : NamedObject
  pub among : Contains project.objects object
  pub is : object.name ≡ name
  pub some : 0 < length name

abbrev pub IsOwned : Project → Piece → Type 0
IsOwned project x = IsObjectName project x.object

-- the input sections in the output
abbrev pub entries_of : Layout → List Piece
entries_of layout = flat_map (λ (row : List Piece). row) (map entries_in layout.sections)

-- each input section stands once, is of an object of the project and shares no address with another of its output
-- section
pub record AreInPlace (project : Project) (layout : Layout) : Type 0 where
  pub once : EachLater Differ (entries_of layout)
  pub owned : Each (IsOwned project) (entries_of layout)
  pub spread : Each IsSpread layout.sections
