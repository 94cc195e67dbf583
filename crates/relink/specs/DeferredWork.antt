-- How much an edit of a deferred session counts, whatever is linked before it, and the link of one or of several.
use Rattle.std.specs.Prelude.{◌≡◌, ◌⊎◌, ◌≤◌, ◌+◌, ℕ, List, [], ◌∷◌, false, true, length}
use Rattle.elfobj.specs.Counts.{Counts, capped}
use Rattle.ldmodel.specs.Edits.{Change}
use Rattle.ldmodel.specs.Names.{distinct}
use Rattle.ldmodel.specs.Project.{Project}
use Rattle.ldmodel.specs.SessionWork.{objects_read}
use Rattle.relink_driver.specs.Reads.{ReadsNothing}
use Rattle.relink.specs.Deferred.{Deferred, IsOnlyEdit}
use Rattle.relink.specs.Work.{HasPlacedWork, IsReadingWork, LinksNothing, decided_by}

-- the edit is the one since the last link; the object that it brings is read, and the names of `decided_by` are
-- decided, each once
pub record IsResolved (project : Project) (change : Change) (next : Deferred) (before after : Counts) : Type 0 where
  pub edited : IsOnlyEdit project change next.edited
  pub resolved : next.is_resolved ≡ true
  pub objects : after.objects ≡ capped before.objects (objects_read change)
  pub names : after.names ≡ capped before.names (length (distinct (decided_by project change next.project)))

-- an edit right after a link counts within the bound, and nothing of a link; it leads to the project that is there,
-- which stays linked, or is resolved
pub record IsStagingWork (project : Project) (change : Change) (next : Deferred) (before after : Counts) : Type 0 where
  pub reading : IsReadingWork project change next.project before after
  pub none : LinksNothing before after
  pub made :
      ((next.project ≡ project) × (next.is_linked ≡ true)) ⊎ IsResolved project change next before after

-- the link of a project that no edit has changed since counts nothing; where the names are resolved it reads no object
-- and decides no name, whatever edits came since; where one edit has, it places, evaluates and writes what it has to
pub record IsLinkingWork (held : Deferred) (before after : Counts) : Type 0 where
  pub unchanged : held.is_linked ≡ true → after ≡ before
  pub reads : held.is_resolved ≡ true → ReadsNothing before after
  pub placed : (project : Project) (change : Change) → IsOnlyEdit project change held.edited
      → HasPlacedWork project change held.project before after

-- ---- several edits, and one link

-- the object that an edit brings is read, and no other; these names are decided, each once; and nothing is counted of a
-- link
pub record ReadsAndDecides (change : Change) (decided : List (List ℕ)) (before after : Counts) : Type 0 where
  pub objects : after.objects ≡ capped before.objects (objects_read change)
  pub names : after.names ≡ capped before.names (length (distinct decided))
  pub none : LinksNothing before after

-- what an accepted edit counts, whether the project before it is linked or not. Where the names are not resolved, not
-- even after it, it decides none. Where they are before it, they stay so, and it decides those of `decided_by`, or none
-- if it leads to the project that is there. (The one edit of a session that resolves the names of all objects, a move,
-- a removal or an `add` before the end while the project is opened, is not bounded here.)
pub record IsEditWork (old : Deferred) (change : Change) (new : Deferred) (before after : Counts) : Type 0 where
  pub stays : old.is_resolved ≡ true → new.is_resolved ≡ true
  pub unresolved : new.is_resolved ≡ false → ReadsAndDecides change [] before after
  pub resolved : old.is_resolved ≡ true
      → ((new.project ≡ old.project) × ReadsAndDecides change [] before after)
      ⊎ ReadsAndDecides change (decided_by old.project change new.project) before after

-- an accepted edit, and the state and the counts after it
pub record EditStep : Type 0 where
  pub change : Change
  pub new : Deferred
  pub counts : Counts

-- edits, one after the other, lead from one state and counts to others
abbrev pub AreEdits : Deferred → Counts → List EditStep → Deferred → Counts → Type 0
AreEdits old before [] last after = (last ≡ old) × (after ≡ before)
AreEdits old before (step ∷ rest) last after =
    IsEditWork old step.change step.new before step.counts × AreEdits step.new step.counts rest last after

-- the objects that edits bring
abbrev pub objects_brought : List EditStep → ℕ
objects_brought [] = 0
objects_brought (step ∷ rest) = objects_read step.change + objects_brought rest

-- the names that they may decide, from a project on: those of each edit, each once
abbrev pub names_brought : Project → List EditStep → ℕ
names_brought project [] = 0
names_brought project (step ∷ rest) =
    length (distinct (decided_by project step.change step.new.project)) + names_brought step.new.project rest

-- what several edits count: each object that one brings is read, once, and no other; of the names at most those of each
-- edit are decided; and nothing is counted of a link
pub record IsWorkOfEdits (project : Project) (steps : List EditStep) (before after : Counts) : Type 0 where
  pub objects : after.objects ≡ capped before.objects (objects_brought steps)
  pub decided : ℕ
  pub names : after.names ≡ capped before.names decided
  pub few : decided ≤ names_brought project steps
  pub none : LinksNothing before after

-- what they count with one link after them, which reads no object again and decides no name again: the input sections,
-- relocations and bytes that are counted are those of this link
pub record IsWorkOfEditsAndLink (project : Project) (steps : List EditStep) (before between after : Counts) : Type 0
  where
    pub edits : IsWorkOfEdits project steps before between
    pub link : ReadsNothing between after
    pub objects : after.objects ≡ capped before.objects (objects_brought steps)
    pub names : after.names ≤ before.names + names_brought project steps

-- what the edits count that open a project, while its names are not resolved: the objects that they bring are read,
-- each once, and nothing else is counted
pub record IsWorkOfOpening (steps : List EditStep) (before after : Counts) : Type 0 where
  pub objects : after.objects ≡ capped before.objects (objects_brought steps)
  pub names : after.names ≡ before.names
  pub none : LinksNothing before after
