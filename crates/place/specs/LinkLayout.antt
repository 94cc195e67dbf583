-- The layout of a project as the code keeps it, or why there is none.
use Rattle.std.specs.Prelude.{◌≡◌, [], ◌∷◌, ⊤, Ok, Err}
use Rattle.std.specs.List.{AllZip}
use Rattle.ldmodel_laws.specs.ImageBytes.{AreNamed}
use Rattle.ldmodel.specs.Layout.{Layout}
use Rattle.ldmodel.specs.PlacementView.{AreSegments}
use Rattle.ldmodel.specs.Link.{layout, of_length}
use Rattle.ldmodel.specs.Names.{provided}
use Rattle.ldmodel.specs.Overlaps.{overlaps}
use Rattle.ldmodel.specs.Placement.{placement}
use Rattle.ldmodel.specs.Project.{Project}
use Rattle.ldmodel.specs.Rows.{rows}
use Rattle.ldmodel.specs.SectionHeaders.{image_length}
use Rattle.ldmodel.specs.Segments.{segments}
use Rattle.ldmodel.specs.declared.fault.Fault.{Fault}
use Rattle.ldmodel_project.specs.ByPlace.{faults_in}
use Rattle.place_sections.specs.Places.{AreOf, IsPlacement, Places}
use Rattle.place.specs.Offsets.{IsOffset}
use Rattle.place.specs.declared.link_layout.LayoutFault.{LayoutFault}
use Rattle.place.specs.declared.link_layout.LayoutFault.TheVariants.{Faulty, NoMemory}
use Rattle.place.specs.declared.link_layout.LinkLayout.{LinkLayout}

-- s is the layout of the project but for the length of its image, and l is s; a later layout of the script may take
-- its placement over; output sections have different names
pub record IsLinkLayout (project : Project) (s : Layout) (l : LinkLayout) : Type 0 where
  pub placed : placement project.script (rows project) (provided project) ≡ Ok s
  pub apart : overlaps s.sections ≡ []
  pub layout : layout project ≡ of_length (image_length project s) s
  pub places : AreOf project.script s l.placement
  pub kept : IsPlacement project.script (rows project) (provided project) l.placement
  pub segments : AreSegments s.sections (segments s.sections) l.segments.items
  pub offsets : AllZip (IsOffset s) s.sections l.offsets.items
  pub named : AreNamed s.sections

-- places of the project's layout, in which no output sections meet
pub record HasPlaces (project : Project) (l : Places) : Type 0 where
  pub layout : Layout
  pub placed : placement project.script (rows project) (provided project) ≡ Ok layout
  pub apart : overlaps layout.sections ≡ []
  pub places : AreOf project.script layout l
  pub kept : IsPlacement project.script (rows project) (provided project) l

pub record HasLayout (project : Project) (l : LinkLayout) : Type 0 where
  pub layout : Layout
  pub is : IsLinkLayout project layout l

-- the project has no layout, and these are all the faults; or memory ran out
abbrev pub IsWhy : Project → LayoutFault → Type 0
IsWhy project (Faulty fs) = layout project ≡ Err (faults_in project fs.items)
IsWhy project (NoMemory _) = ⊤

-- this fault alone, or memory ran out
abbrev pub IsOne : LayoutFault → Fault → Type 0
IsOne (Faulty fs) fault = fs.items ≡ fault ∷ []
IsOne (NoMemory _) fault = ⊤
