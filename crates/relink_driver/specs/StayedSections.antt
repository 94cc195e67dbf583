-- Which input sections of a link stayed where a previous link has them.
use Rattle.std.specs.Prelude.{◌≡◌, ◌≤◌, true, Option, Some, IfSome, length, slice_get}
use Rattle.ldmodel.specs.Edits.{AreNamesDistinct}
use Rattle.ldmodel.specs.Link.{max_image_length}
use Rattle.ldmodel.specs.Project.{NamedObject, Project}
use Rattle.ldmodel.specs.SectionHeaders.{image_length}
use Rattle.ldmodel.specs.Stayed.{GoodLink}
use Rattle.ldmodel.specs.declared.sections.SectionRef.{SectionRef}
use Rattle.symres.specs.SymbolTable.{SymbolTableState}
use Rattle.place.specs.IndexedLayout.{IsIndexedLayout}
use Rattle.emit.specs.relocate.KnownLink.{KnownLink}
use Rattle.emit.specs.relocate.declared.previous_link_info.FileRange.{FileRange}
use Rattle.emit.specs.relocate.LinkView.{known_link}
use Rattle.relink_driver.specs.DirtyObjects.{AreDirtyObjects}
use Rattle.relink_driver.specs.LinkSnapshot.{IsLinkSnapshot}
use Rattle.relink_driver.specs.Origins.{AreOrigins}
pub use Rattle.relink_driver.specs.PreviousLink.{PreviousState, ReplacedObjectState, address_from, range_if_same}
pub use Rattle.relink_driver.specs.PreviousLink.{last_place}
pub use Rattle.relink_driver.specs.PreviousLink.{previous_address, previous_of, previous_state}
pub use Rattle.relink_driver.specs.PreviousLink.{replaced_state, standing_from}
unfoldable pub use Rattle.relink_driver.specs.PreviousLink.{stayed_range, previous_location}
use Rattle.relink_driver.specs.declared.stayed_sections.StayedSections.{StayedSections}

abbrev pub range_of : StayedSections → SectionRef → Option FileRange
range_of s k = stayed_range (previous_of s.previous) s.indexed_layout.now k

-- this object of the previous project was replaced by that of the new one which has its name
pub record IsReplaced (project q : Project) (r : ReplacedObjectState) : Type 0 where
  pub before : NamedObject
  pub after : NamedObject
  pub old : slice_get project.objects r.old_place.0 ≡ Some before
  pub new : slice_get q.objects r.new_place.0 ≡ Some after
  pub object : before.object ≡ r.old_object
  pub name : after.name ≡ before.name

-- the previous link is this one, with this number of objects, which are those of the next project as its origins say;
-- its options are the same, and so is its script where it is said to be
pub record IsPreviousOf (old : GoodLink) (new : Project) (previous : PreviousState) : Type 0 where
  pub table : IsLinkSnapshot old previous.snapshot
  pub objects : previous.objects ≡ length old.project.objects
  pub options : old.project.options ≡ new.options
  pub origins : AreOrigins old.project new previous.origins
  pub script : previous.same_script ≡ true → old.project.script ≡ new.script
  pub replaced : IfSome previous.replaced (IsReplaced old.project new)

-- the new link, at a layout whose image is not too long, and the previous one, if there is one
pub record AreStayedSections (s : StayedSections) (old : GoodLink) (l : KnownLink) : Type 0 where
  pub symbol_table : SymbolTableState
  pub link : l ≡ known_link l.project l.layout symbol_table
  pub names : AreNamesDistinct l.project.objects
  pub indexed_layout : IsIndexedLayout l.project l.layout s.indexed_layout.now
  pub short : image_length l.project l.layout ≤ max_image_length
  pub previous : IfSome (previous_of s.previous) (IsPreviousOf old l.project)
  pub dirty : AreDirtyObjects old l.project l.layout s.dirty.now
