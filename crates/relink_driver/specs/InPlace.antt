-- A link whose project differs from that of a previous one in what the input sections of one object hold.
use Rattle.std.specs.Prelude.{◌≡◌, ◌<◌, ◌==◌, ℕ, true, List, Option, Some, None, length, map, slice_get}
use Rattle.std.specs.Prelude.{[], Ok, find, if◌then◌else◌, slice_index_or, sum_by}
use Rattle.std.specs.Option.{option_map_or}
use Rattle.elfobj.specs.Profile.{size_in_file}
use Rattle.elfobj.specs.Sections.{LinkedSection}
use Rattle.ldmodel.specs.Image.{image}
use Rattle.ldmodel.specs.Layout.{Layout}
use Rattle.ldmodel.specs.Link as model
use Rattle.ldmodel.specs.MapText.{map_text}
use Rattle.ldmodel.specs.Names.{decision, provided}
use Rattle.ldmodel.specs.Project.{NamedObject, Project}
use Rattle.ldmodel.specs.Relocations.{relocation_faults}
use Rattle.ldmodel.specs.Rows.{rows}
use Rattle.ldmodel.specs.Stayed.{GoodLink, LinkedPiece, link_pieces}
use Rattle.ldmodel.specs.SymbolValues.{name_value}
use Rattle.ldmodel.specs.declared.sections.Part.TheVariants.{InTable}
use Rattle.ldmodel_laws.specs.Outline.{HasSameFrame, DiffersInContents, section_outline, section_targets}
use Rattle.ldmodel_laws.specs.StayedSites.{is_linked_part}
use Rattle.relink_driver.specs.StayedSections.{IsPreviousOf, PreviousState, ReplacedObjectState}
use Rattle.relink_driver.specs.LinkSnapshot.{IsLinkSnapshot}

-- where an object stood, if all but the one of a place stood where they stand
abbrev pub origin_beside : (place i : ℕ) → Option ℕ
origin_beside place i = if i == place then None else Some i

-- nothing differs from the previous link, which is the one that is answered, but what the sections of one object hold;
-- where sections are dropped that nothing refers to, their relocations name the same symbols, in their order
pub record IsNextLink (previous : PreviousState) (project : Project) (r : ReplacedObjectState) : Type 0 where
  pub script : previous.same_script ≡ true
  pub current : previous.is_answered ≡ true
  pub replaced : previous.replaced ≡ Some r
  pub place : r.old_place.0 ≡ r.new_place.0
  pub objects : previous.objects ≡ length project.objects
  pub origins : (i : ℕ) → i < length project.objects → slice_index_or previous.origins i None
      ≡ origin_beside r.new_place.0 i
  pub after : NamedObject
  pub at : slice_get project.objects r.new_place.0 ≡ Some after
  pub symbols : r.old_object.symbols ≡ after.object.symbols
  pub sections : map section_outline r.old_object.sections ≡ map section_outline after.object.sections
  pub references : project.options.gc ≡ true
      → map section_targets r.old_object.sections ≡ map section_targets after.object.sections

-- what the laws on outlines say of two projects, at the layout of the first
pub record HasSameOutlines (project q : Project) (s : Layout) : Type 0 where
  pub decided : (name : List ℕ) → decision project name ≡ decision q name
  pub provided : provided project ≡ provided q
  pub worth : (name : List ℕ) → name_value project s name ≡ name_value q s name
  pub rows : rows project ≡ rows q
  pub layout : model.layout project ≡ model.layout q
  pub frame : HasSameFrame project q s
  pub map : map_text project s ≡ map_text q s
  pub link : model.layout project ≡ Ok s → (model.link project).status ≡ 0 → relocation_faults q s ≡ []
      → model.link q ≡ model.good q s

-- the previous link is the one that is answered, and what is kept of it is right for the new one, which has no faults,
-- the same map and this image
pub record IsInPlaceOutcome (project : Project) (previous : Option PreviousState) (bytes : List ℕ) : Type 0 where
  pub before : PreviousState
  pub was : previous ≡ Some before
  pub current : before.is_answered ≡ true
  pub place : ℕ
  pub rewritten : (old : GoodLink) → IsPreviousOf old project before → DiffersInContents old.project project place
  pub layout : Layout
  pub link : model.link project ≡ model.good project layout
  pub table : IsLinkSnapshot (record { project = project; layout = layout }) before.snapshot
  pub names : (old : GoodLink) → IsPreviousOf old project before
      → map (λ (object : NamedObject). object.name) project.objects
      ≡ map (λ (object : NamedObject). object.name) old.project.objects
  pub map : (old : GoodLink) → IsPreviousOf old project before → map_text project layout
      ≡ map_text old.project old.layout
  pub image : bytes ≡ image project layout

-- how many bytes of the image a section of an object of this name has of its own
abbrev pub own_bytes : GoodLink → List ℕ → LinkedSection → ℕ
own_bytes link object section =
    option_map_or (λ (y : LinkedPiece). size_in_file section.kind y.range.length)
    (find (is_linked_part object (InTable section.number)) (link_pieces link)) 0

-- how many those of the object of a place have
abbrev pub bytes_of_object : GoodLink → ℕ → ℕ
bytes_of_object link place =
    option_map_or (λ (object : NamedObject). sum_by (own_bytes link object.name) object.object.sections)
    (slice_get link.project.objects place) 0
