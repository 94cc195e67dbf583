-- How a link over a previous one ends.
use Rattle.std.specs.Prelude.{◌≡◌, ℕ, List, [], Option, Bool, true}
use Rattle.ldmodel.specs.Image.{image}
use Rattle.ldmodel.specs.Layout.{Layout}
use Rattle.ldmodel.specs.Link.{link}
use Rattle.ldmodel.specs.Project.{Project}
use Rattle.ldmodel.specs.Stayed.{GoodLink}
use Rattle.relink_driver.specs.StayedSections.{IsPreviousOf, PreviousState}
use Rattle.relink_driver.specs.InPlace.{IsInPlaceOutcome}
use Rattle.relink_driver.specs.LinkSnapshot.{IsLinkSnapshot}
use Rattle.relink_driver.specs.WithoutMap.{shown}
use Rattle.relink_driver.specs.declared.link_snapshot.LinkSnapshot.{LinkSnapshot}
use Rattle.relink_driver.specs.declared.driver.RelinkOutcome.{RelinkOutcome}
use Rattle.relink_driver.specs.declared.driver.RelinkOutcome.TheVariants as ended

-- the previous link is one whose image this is
pub record HasPreviousImage (new : Project) (bytes : List ℕ) (previous : PreviousState) : Type 0 where
  pub old : GoodLink
  pub is : IsPreviousOf old new previous
  pub image : bytes ≡ image old.project old.layout

-- a link without faults, whose image these bytes are, and whose map, if that is asked for
pub record IsGoodOutcome (with_map : Bool) (project : Project) (bytes : List ℕ) (g : LinkSnapshot) (map : List ℕ)
    : Type 0 where
  pub layout : Layout
  pub link : shown with_map (link project) ≡ record { status = 0; image = bytes; map = map; faults = [] }
  pub table : IsLinkSnapshot (record { project = project; layout = layout }) g
  pub image : bytes ≡ image project layout

-- fault lines, where the bytes are as they were; or a link without faults, of which all but the image may be that of
-- the previous link
abbrev pub HasShownOutcome : (with_map : Bool) → Project → Option PreviousState → List ℕ → List ℕ → RelinkOutcome
    → Type 0
HasShownOutcome with_map project previous old new (ended.Faulty t) =
    (link project ≡ record { status = 1; image = []; map = []; faults = t.items }) × (new ≡ old)
HasShownOutcome with_map project previous old new (ended.Good g m) = IsGoodOutcome with_map project new g m.items
HasShownOutcome with_map project previous old new ended.RewrittenInPlace = IsInPlaceOutcome project previous new

-- so with the map
abbrev pub HasRelinkOutcome : Project → Option PreviousState → List ℕ → List ℕ → RelinkOutcome → Type 0
HasRelinkOutcome project previous old new e = HasShownOutcome true project previous old new e
