-- What a deferred session keeps of its last link and of an edit that is not linked.
use Rattle.std.specs.Prelude.{◌≡◌, ℕ, ◌+◌, Bool, true, false, List, [], ◌∷◌, Option, None, Some, IfSome, is_none}
use Rattle.ldmodel.specs.Edits.{Change, SetScript}
use Rattle.ldmodel.specs.Link.{Link, link}
use Rattle.ldmodel.specs.Project.{Project}
use Rattle.ldmodel_project.specs.ProjectState.{ProjectState, Listing, EditsOne, held, listing_of}
use Rattle.ldmodel_project.specs.ProjectState.{next_listing, project_of}
use Rattle.ldmodel_project.specs.Listing.{keys_of}
use Rattle.ldmodel_project.specs.Next.{Fits}
use Rattle.ldmodel_project.specs.Edited.{ChangesOneObject}
use Rattle.ldmodel_project.specs.declared.staged.Staged.{Staged}
use Rattle.relink.specs.KeptTables.{AreTablesOf}
use Rattle.relink.specs.Outcome.{is_good, shown}
use Rattle.relink.specs.PreviousLink.{IsOfGoodLink, IsPreviousLink, IsRecorded}
use Rattle.relink.specs.declared.link_tables.LinkTables.{LinkTables}
use Rattle.relink.specs.declared.outcome.LinkOutcome.{LinkOutcome}
use Rattle.relink.specs.declared.previous.EditEffect.{EditEffect}
use Rattle.relink.specs.declared.previous.PreviousLink.{PreviousLink}
use Rattle.relink.specs.declared.previous.UpdateOutcome.{UpdateOutcome}

-- an edit since the last link: the project before it, which was linked; and whether the script is known to stay
pub record EditSince : Type 0 where
  pub before : Project
  pub same_script : Bool

-- the project, as the edits have made it, and the last link
pub record Deferred : Type 0 where
  pub project : Project
  pub last : Link
  -- whether it is known that no edit came since, and the names are resolved
  pub is_linked : Bool
  -- whether the names are resolved, so that each edit decides its own
  pub is_resolved : Bool
  -- the edit that came since, if it is known that no other one did, and the names were resolved before it
  pub edited : Option EditSince

-- a staged edit was made for the project
pub record IsStaged (h : ProjectState) (s : Staged) : Type 0 where
  pub fits : Fits h.contents s.objects
  pub arranged : ChangesOneObject h.contents.entries s.objects
  pub one : EditsOne s

-- so was the last one, if one is staged
abbrev pub HasStaged : ProjectState → Option Staged → Type 0
HasStaged h staged = IfSome staged (IsStaged h)

-- the project with the staged edit
abbrev pub staged_listing : ProjectState → Option Staged → Listing
staged_listing h None = listing_of h
staged_listing h (Some s) = next_listing h s

-- what is known where the last link is of the project without the staged edit, or may not be, and tables are kept of it
abbrev pub is_linked_since : (is_linked : Bool) → Option LinkTables → Option Staged → Bool
is_linked_since true (Some tables) None = true
is_linked_since true (Some tables) (Some s) = false
is_linked_since true None staged = false
is_linked_since false tables staged = false

abbrev pub edit_since : (is_linked : Bool) → ProjectState → Option LinkTables → Option Staged → Option EditSince
edit_since true h (Some tables) (Some s) = Some (record { before = held h; same_script = is_none s.script })
edit_since true h (Some tables) None = None
edit_since true h None staged = None
edit_since false h tables staged = None

-- an edit of the objects leaves the script
abbrev pub keeps_script : Change → Bool
keeps_script (SetScript text) = false
keeps_script change = true

-- the one edit since the last link is this one, of this project
abbrev pub IsOnlyEdit : Project → Change → Option EditSince → Type 0
IsOnlyEdit project change None = ⊥
IsOnlyEdit project change (Some edit) =
    (edit.before ≡ project) × (keeps_script change ≡ true → edit.same_script ≡ true)

-- keys that are their places, from a place on
abbrev pub AreKeysFrom : ℕ → List ℕ → Type 0
AreKeysFrom place [] = Unit {0}
AreKeysFrom place (key ∷ rest) = (key ≡ place) × AreKeysFrom (place + 1) rest

-- the tables are of the project; or there are none yet, and the keys of its objects are their places
abbrev pub HasTables : Listing → Option LinkTables → Type 0
HasTables l None = AreKeysFrom 0 (keys_of l.entries)
HasTables l (Some tables) = AreTablesOf l tables.symbol_table tables.matches.items

-- where the last link is of the project, the previous one is as in a session; else there may be one, of an earlier
-- project
abbrev pub IsLastGood : (is_linked : Bool) → Listing → List ℕ → LinkOutcome → Option PreviousLink → Type 0
IsLastGood true l bytes outcome previous = IsPreviousLink l bytes outcome previous
IsLastGood false l bytes outcome previous = IfSome previous (IsOfGoodLink l bytes)

-- an outcome as an edit sees it: that of the last link, if that is of the project; else one with faults
abbrev pub IsSeenAs : (is_linked : Bool) → (outcome seen : LinkOutcome) → Type 0
IsSeenAs true outcome seen = seen ≡ outcome
IsSeenAs false outcome seen = is_good seen ≡ false

-- an edit was linked over the previous link: where that is recorded, what is answered is the link of the next project,
-- and what is kept is as after a link
abbrev pub IsUpdatedOver : ProjectState → Staged → List ℕ → LinkOutcome → Option PreviousLink → List ℕ
    → UpdateOutcome → EditEffect → Type 0
IsUpdatedOver h s old seen previous new updated e =
    (is_linked : Bool) (before after : LinkOutcome) (later : Option PreviousLink) → IsSeenAs is_linked before seen
    → (is_linked ≡ true → shown old before ≡ link (held h)) → IsRecorded updated e previous later before after
    → (shown new after ≡ link (project_of (next_listing h s))) × IsPreviousLink (next_listing h s) new after later
