-- When the image of a previous link must be rewritten in place: the way of an edit that brings a compiled object whose
-- layout is that of the one before it.
use Rattle.std.specs.Prelude.{◌≡◌, Option, Some}
use Rattle.ldmodel.specs.Link.{link}
use Rattle.ldmodel.specs.Project.{Project}
use Rattle.relink_driver.specs.InPlace.{IsNextLink}
use Rattle.relink_driver.specs.StayedSections.{PreviousState, ReplacedObjectState}

-- there is a previous link from which nothing differs but what the sections of one object hold, and the project has no
-- faults
pub record IsRewritable (project : Project) (previous : Option PreviousState) : Type 0 where
  pub before : PreviousState
  pub was : previous ≡ Some before
  pub replaced : ReplacedObjectState
  pub next : IsNextLink before project replaced
  pub good : (link project).status ≡ 0
