-- What writing the sections of one object over a previous image comes to.
use Rattle.std.specs.Prelude.{◌≡◌, ◌≤◌, ◌⊎◌, ℕ, Bool, true, false, List, [], Ok, Option}
use Rattle.elfobj.specs.Counts.{Counts}
use Rattle.elfobj.specs.Raised.{raised}
use Rattle.elfobj.specs.declared.meter.Count.TheVariants.{Bytes, Fields}
use Rattle.ldmodel.specs.Layout.{Layout}
use Rattle.ldmodel.specs.Link.{layout}
use Rattle.ldmodel.specs.Project.{Project}
use Rattle.ldmodel.specs.Relocations.{relocation_faults}
use Rattle.ldmodel.specs.SessionWork.{bytes_to_write, sites_to_evaluate}
use Rattle.ldmodel.specs.Stayed.{GoodLink}
use Rattle.emit.specs.Beside.{new_link}
use Rattle.relink_driver.specs.Reads.{ReadsNothing}
use Rattle.relink_driver.specs.InPlace.{IsInPlaceOutcome, bytes_of_object}
use Rattle.relink_driver.specs.StayedSections.{IsPreviousOf, PreviousState}
use Rattle.relink_driver.specs.Worked.{IsWorkBeside}

-- the fields of what did not stay are counted, and the bytes of the sections of the object of a place, which are no
-- more than an incremental link may write
pub record IsTouchedCount (old new : GoodLink) (place : ℕ) (before after : Counts) : Type 0 where
  pub counted :
      after ≡ raised (raised before Fields (sites_to_evaluate old new)) Bytes (bytes_of_object new place)
  pub few : bytes_of_object new place ≤ bytes_to_write old new

-- a relocation has a fault
abbrev pub HasFault : Project → Type 0
HasFault project = (s : Layout) → layout project ≡ Ok s → relocation_faults project s ≡ [] → ⊥

-- so it is beside each link that the previous one may be
abbrev pub IsTouchedWork : Project → PreviousState → (place : ℕ) → Counts → Counts → Type 0
IsTouchedWork project previous place before after =
    (old : GoodLink) (s : Layout) → IsPreviousOf old project previous → layout project ≡ Ok s
    → IsTouchedCount old (new_link project s) place before after

-- the link is the previous one with another image; or the canvas is as it was, and nothing is counted unless a
-- relocation has a fault
abbrev pub HasTouched : Project → Option PreviousState → (old new : List ℕ) → Counts → Counts → Bool → Type 0
HasTouched project previous old new before after true =
    IsInPlaceOutcome project previous new × ReadsNothing before after × IsWorkBeside project previous before after
HasTouched project previous old new before after false =
    (new ≡ old) × ((after ≡ before) ⊎ (HasFault project × ReadsNothing before after))
