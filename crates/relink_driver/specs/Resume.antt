-- The first row of a link that differs from those of a previous one.
use Rattle.std.specs.Prelude.{◌≡◌, ◌<◌, ◌≤◌, ℕ, true, [], Option, Some, None, Contains, slice_get, slice_index_or, take}
use Rattle.ldmodel.specs.Project.{NamedObject, Project}
use Rattle.ldmodel.specs.Rows.{rows}
use Rattle.ldmodel.specs.SessionWork.{entries_from}
use Rattle.relink_driver.specs.StayedSections.{PreviousState, ReplacedObjectState}

-- the object at this place is known to have come in the place of another
abbrev pub HasReplaced : Option ReplacedObjectState → ℕ → Type 0
HasReplaced None i = ⊥
HasReplaced (Some r) i = r.new_place.0 ≡ i

-- the new project follows the previous one at once: its script is known to be the same, and each of its objects that is
-- none of the previous ones, but has the name of one, is known to have come in its place
pub record IsNext (old new : Project) (previous : PreviousState) : Type 0 where
  pub script : previous.same_script ≡ true
  pub known : (i : ℕ) (object y : NamedObject) → slice_get new.objects i ≡ Some object
      → slice_index_or previous.origins i None ≡ None
      → Contains old.objects y → y.name ≡ object.name → HasReplaced previous.replaced i

-- no row before this one differs
abbrev pub AreSameBefore : Project → Project → ℕ → Type 0
AreSameBefore old new first =
    (k : ℕ) → k < first → slice_index_or (rows old) k [] ≡ slice_index_or (rows new) k []

-- from this row on, there are no more entries than from any row before which no row differs
abbrev pub IsFirstChanged : Project → Project → ℕ → Type 0
IsFirstChanged old new first =
    (n : ℕ) → take n (rows old) ≡ take n (rows new) → entries_from first (rows new) ≤ entries_from n (rows new)
