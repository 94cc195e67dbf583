-- What the phases of a link count, beside a previous one.
use Rattle.std.specs.Prelude.{◌≡◌, ◌≤◌, ◌⊎◌, ◌+◌, ◌-◌, ℕ, false, IfSome, IsSome, Option, Some, Ok, length}
use Rattle.elfobj.specs.Counts.{Counts, capped}
use Rattle.elfobj.specs.Raised.{raised}
use Rattle.elfobj.specs.declared.meter.Count.TheVariants.{Bytes, Fields, Pieces}
use Rattle.emit.specs.image.Stretches.{patch_bytes}
use Rattle.relink_driver.specs.Resume.{AreSameBefore, IsFirstChanged, IsNext}
use Rattle.relink_driver.specs.InPlace.{bytes_of_object}
use Rattle.relink_driver.specs.StayedSections.{IsPreviousOf, PreviousState, previous_of}
use Rattle.relink_driver.specs.declared.stayed_sections.StayedSections.{StayedSections}
use Rattle.ldmodel_laws.specs.Outline.{DiffersInContents}
use Rattle.ldmodel_laws.specs.Untouched.{IsGood}
use Rattle.place.specs.LinkLayout.{IsLinkLayout}
use Rattle.ldmodel.specs.Layout.{Layout}
use Rattle.ldmodel.specs.Link.{layout}
use Rattle.ldmodel.specs.Project.{Project}
use Rattle.ldmodel.specs.Rows.{rows}
use Rattle.ldmodel.specs.SectionHeaders.{image_length}
use Rattle.ldmodel.specs.SessionWork.{bytes_to_write, entries_from, sites_to_evaluate}
use Rattle.ldmodel.specs.Stayed.{GoodLink, retargeted}
use Rattle.ldmodel.specs.WorkBound.{bytes_stayed, retargeted_bytes, sites_outside}
use Rattle.emit.specs.Beside.{new_link}
use Rattle.emit.specs.declared.relocated.Relocated.{Relocated}

-- only input sections are counted: the entries of the rows from this one on. No row before it differs, from those of
-- the previous link; where the project follows that at once, it is the first that does; and where the script is
-- another, it is the first of all
pub record ArePlaced (project : Project) (previous : Option PreviousState) (before after : Counts) : Type 0 where
  pub first : ℕ
  pub counted : after ≡ raised before Pieces (entries_from first (rows project))
  pub same : (old : GoodLink) (x : PreviousState) → previous ≡ Some x → IsPreviousOf old project x
      → AreSameBefore old.project project first
  pub changed :
      (old : GoodLink) (x : PreviousState) → previous ≡ Some x → IsPreviousOf old project x
      → IsNext old.project project x
      → IsFirstChanged old.project project first
  pub anew : (x : PreviousState) → previous ≡ Some x → x.same_script ≡ false → first ≡ 0

-- the fields of sites outside of what stayed, and of those in it whose symbol has another value; the patches have the
-- bytes of the latter
pub record CountsFields (old new : GoodLink) (r : Relocated) (before after : Counts) : Type 0 where
  pub counted : after ≡ raised before Fields (length (sites_outside old new) + length (retargeted old new))
  pub patched : patch_bytes r.retargeted.items ≡ retargeted_bytes old new

-- only fields are counted, and beside a previous link these
pub record AreEvaluated (project : Project) (layout : Layout) (stayed : StayedSections) (r : Relocated)
    (before after : Counts) : Type 0 where
  pub fields : (n : ℕ) × (after ≡ raised before Fields n)
  pub beside :
      (old : GoodLink) → IfSome (previous_of stayed.previous) (IsPreviousOf old project) → IsSome stayed.previous
      → IsGood old
      → IsGood (new_link project layout) → CountsFields old (new_link project layout) r before after

-- so it is at the layout of these tables
abbrev pub HasEvaluated : Project → StayedSections → Relocated → Counts → Counts → Type 0
HasEvaluated project stayed r before after =
    (layout : Layout) → IsLinkLayout project layout stayed.indexed_layout.now.link_layout
    → AreEvaluated project layout stayed r before after

-- the bytes of the image outside of what stayed, and of the patches
abbrev pub bytes_spent : GoodLink → GoodLink → Relocated → ℕ
bytes_spent old new r =
    patch_bytes r.retargeted.items + (image_length new.project new.layout - bytes_stayed old new)

-- only bytes of the image are counted, and beside a previous link these
pub record IsWritten (project : Project) (layout : Layout) (stayed : StayedSections) (r : Relocated)
    (before after : Counts) : Type 0 where
  pub bytes : (n : ℕ) × (after ≡ raised before Bytes n)
  pub beside :
      (old : GoodLink) → IfSome (previous_of stayed.previous) (IsPreviousOf old project) → IsSome stayed.previous
      → after ≡ raised before Bytes (bytes_spent old (new_link project layout) r)

abbrev pub HasWritten : Project → StayedSections → Relocated → Counts → Counts → Type 0
HasWritten project stayed r before after =
    (layout : Layout) → IsLinkLayout project layout stayed.indexed_layout.now.link_layout
    → IsWritten project layout stayed r before after

-- the bytes of an image that is drawn over the previous one: those outside of what stayed, with those of the fields in
-- it of symbols of another value, as many as an incremental link may write
abbrev pub IsDrawnCount : GoodLink → GoodLink → ℕ → Type 0
IsDrawnCount old new written = written ≡ bytes_to_write old new

-- the bytes of an image that differs from the previous one in what the input sections of one object hold: those of
-- these sections
pub record IsInPlaceCount (old new : GoodLink) (written : ℕ) : Type 0 where
  pub place : ℕ
  pub rewritten : DiffersInContents old.project new.project place
  pub is : written ≡ bytes_of_object new place

-- the fields of sites outside of what stayed, and of those in it whose symbol has another value; and the bytes of the
-- image that are written, which are no more than an incremental link may write, and which of the two counts they are
pub record IsImageCount (old new : GoodLink) (before after : Counts) : Type 0 where
  pub relocations : after.fields ≡ capped before.fields (sites_to_evaluate old new)
  pub written : ℕ
  pub bytes : after.bytes ≡ capped before.bytes written
  pub few : written ≤ bytes_to_write old new
  pub exactly : IsDrawnCount old new written ⊎ IsInPlaceCount old new written

-- no input section is counted, and of the image this
pub record AreDrawn (project : Project) (previous : Option PreviousState) (before after : Counts) : Type 0 where
  pub pieces : after.pieces ≡ before.pieces
  pub image :
      (old : GoodLink) (x : PreviousState) (s : Layout) → previous ≡ Some x → IsPreviousOf old project x
      → layout project ≡ Ok s
      → IsImageCount old (new_link project s) before after
