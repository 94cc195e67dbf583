-- What a link over a previous one counts, where it has no faults: exactly what its calls worked out.
use Rattle.std.specs.Prelude.{◌≡◌, ⊤, ℕ, false, Option, Some, Ok}
use Rattle.elfobj.specs.Counts.{Counts, capped}
use Rattle.relink_driver.specs.Resume.{AreSameBefore, IsFirstChanged, IsNext}
use Rattle.relink_driver.specs.StayedSections.{IsPreviousOf, PreviousState}
use Rattle.ldmodel.specs.Layout.{Layout}
use Rattle.ldmodel.specs.Link.{layout}
use Rattle.ldmodel.specs.Project.{Project}
use Rattle.ldmodel.specs.Rows.{rows}
use Rattle.ldmodel.specs.SessionWork.{entries_from}
use Rattle.ldmodel.specs.Stayed.{GoodLink}
use Rattle.relink_driver.specs.Counted.{IsImageCount}
use Rattle.relink_driver.specs.declared.driver.RelinkOutcome.{RelinkOutcome}
use Rattle.relink_driver.specs.declared.driver.RelinkOutcome.TheVariants as ended

-- the entries of the rows from this one on are placed, before which no row differs; where the project follows the
-- previous one at once, it is the first that does; and where the script is another, it is the first of all
pub record IsLinkWork (old new : GoodLink) (previous : PreviousState) (before after : Counts) : Type 0 where
  pub first : ℕ
  pub pieces : after.pieces ≡ capped before.pieces (entries_from first (rows new.project))
  pub same : AreSameBefore old.project new.project first
  pub changed : IsNext old.project new.project previous → IsFirstChanged old.project new.project first
  pub anew : previous.same_script ≡ false → first ≡ 0
  pub image : IsImageCount old new before after

-- beside each previous link that this one may be
abbrev pub IsWorkBeside : Project → Option PreviousState → Counts → Counts → Type 0
IsWorkBeside project previous before after =
    (old : GoodLink) (x : PreviousState) (s : Layout) → previous ≡ Some x → IsPreviousOf old project x → layout project
    ≡ Ok s
    → IsLinkWork old (record { project = project; layout = s }) x before after

abbrev pub HasWorked : Project → Option PreviousState → Counts → Counts → RelinkOutcome → Type 0
HasWorked project previous before after (ended.Faulty t) = ⊤
HasWorked project previous before after (ended.Good g m) = IsWorkBeside project previous before after
HasWorked project previous before after ended.RewrittenInPlace = IsWorkBeside project previous before after
