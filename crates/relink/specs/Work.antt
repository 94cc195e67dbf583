-- How much an edit may count, and what it counts.
use Rattle.std.specs.Prelude.{◌≡◌, ◌<◌, ◌≤◌, ◌^◌, ◌⊎◌, ⊤, ℕ, List, Ok, Option, length}
use Rattle.elfobj.specs.Counts.{Counts, capped}
use Rattle.relink_driver.specs.Resume.{AreSameBefore}
use Rattle.relink_driver.specs.Rewritable.{IsRewritable}
use Rattle.relink_driver.specs.StayedSections.{PreviousState}
use Rattle.ldmodel.specs.Edits.{Change, Remove, SetScript}
use Rattle.ldmodel.specs.Layout.{Layout}
use Rattle.ldmodel.specs.Link.{layout, link}
use Rattle.ldmodel.specs.Names.{distinct, names_in_objects}
use Rattle.ldmodel.specs.Project.{Project}
use Rattle.ldmodel.specs.Rows.{rows}
use Rattle.ldmodel.specs.SessionWork.{IsSessionWork, Rises, bytes_to_write, entries_from, entries_to_place, named_by}
use Rattle.ldmodel.specs.SessionWork.{names_of, objects_read, sites_to_evaluate, touched_names}
use Rattle.ldmodel.specs.Stayed.{GoodLink}
use Rattle.relink_driver.specs.Counted.{IsImageCount}
use Rattle.relink_driver.specs.Worked.{IsWorkBeside}
use Rattle.relink.specs.declared.previous.UpdateOutcome.{UpdateOutcome}
use Rattle.relink.specs.declared.previous.UpdateOutcome.TheVariants.{Faulty, Good, RewrittenInPlace}

-- each count fits a u64, as those of a meter do
pub record AreSmall (m : Counts) : Type 0 where
  pub objects : m.objects < 2 ^ 64
  pub names : m.names < 2 ^ 64
  pub pieces : m.pieces < 2 ^ 64
  pub fields : m.fields < 2 ^ 64
  pub bytes : m.bytes < 2 ^ 64

-- no object is read, and these names are decided, each once; no count falls
pub record Decides (old new : Counts) (decided : List (List ℕ)) : Type 0 where
  pub objects : new.objects ≡ old.objects
  pub names : new.names ≡ capped old.names (length (distinct decided))
  pub pieces : old.pieces ≤ new.pieces
  pub fields : old.fields ≤ new.fields
  pub bytes : old.bytes ≤ new.bytes

-- a link over the previous one places, evaluates and writes what it has to beside it, and counts exactly that; it is
-- made anew only where the previous image cannot be rewritten in place
abbrev pub HasWorked : Project → Option PreviousState → Counts → Counts → UpdateOutcome → Type 0
HasWorked project previous before after (Faulty text) = ⊤
HasWorked project previous before after (Good x m) =
    IsWorkBeside project previous before after × (IsRewritable project previous → ⊥)
HasWorked project previous before after (RewrittenInPlace origins) = IsWorkBeside project previous before after

-- the counts of input sections, relocations and bytes stay
pub record LinksNothing (old new : Counts) : Type 0 where
  pub pieces : new.pieces ≡ old.pieces
  pub fields : new.fields ≡ old.fields
  pub bytes : new.bytes ≡ old.bytes

-- what a link between two without faults counts, if one edit leads from one to the other: within the bound of an
-- incremental linker; and exactly the entries of the rows from the first one on that differs, or from an earlier one,
-- before which no row differs either, and the fields and bytes of `IsImageCount`
pub record IsPlacedWork (old : GoodLink) (change : Change) (new : GoodLink) (before after : Counts) : Type 0 where
  pub pieces : Rises before.pieces after.pieces (entries_to_place change (rows old.project) (rows new.project))
  pub relocations : Rises before.fields after.fields (sites_to_evaluate old new)
  pub bytes : Rises before.bytes after.bytes (bytes_to_write old new)
  pub first : ℕ
  pub same : AreSameBefore old.project new.project first
  pub exactly : after.pieces ≡ capped before.pieces (entries_from first (rows new.project))
  pub image : IsImageCount old new before after

-- so it is where neither link has faults
abbrev pub HasPlacedWork : Project → Change → Project → Counts → Counts → Type 0
HasPlacedWork project change q before after =
    (s t : Layout) → (link project).status ≡ 0 → (link q).status ≡ 0 → layout project ≡ Ok s → layout q ≡ Ok t
    → IsPlacedWork (record { project = project; layout = s }) change (record { project = q; layout = t }) before after

-- at most one object is read, and none but for an edit that brings one; and at most the names that the edit touches are
-- decided, each once; no count falls
pub record IsReadingWork (project : Project) (change : Change) (q : Project) (before after : Counts) : Type 0 where
  pub objects : Rises before.objects after.objects (objects_read change)
  pub names : Rises before.names after.names (length (touched_names project change q))
  pub pieces : before.pieces ≤ after.pieces
  pub fields : before.fields ≤ after.fields
  pub bytes : before.bytes ≤ after.bytes

-- the names that are decided anew: those that the object of an edit declares before it and after it; where it goes,
-- those that it declared; for a script those of all objects
abbrev pub decided_by : Project → Change → Project → List (List ℕ)
decided_by project (Remove name) q = names_of project name
decided_by project (SetScript text) q = names_in_objects project.objects
decided_by project change q = named_by project change q

-- what was worked out between two links without faults is counted: the object that an edit brings; the names of
-- `decided_by`, each once; the entries of the rows from the first one on that differs, or from an earlier one, before
-- which no row differs either; and the fields and bytes of `IsImageCount`
pub record IsCounted (old : GoodLink) (change : Change) (new : GoodLink) (before after : Counts) : Type 0 where
  pub objects : after.objects ≡ capped before.objects (objects_read change)
  pub names : after.names ≡ capped before.names (length (distinct (decided_by old.project change new.project)))
  pub first : ℕ
  pub same : AreSameBefore old.project new.project first
  pub pieces : after.pieces ≡ capped before.pieces (entries_from first (rows new.project))
  pub image : IsImageCount old new before after

-- so it is, unless the edit leads to the project that is there, whose link is kept
abbrev pub HasCounted : Project → Change → Project → Counts → Counts → Type 0
HasCounted project change q before after =
    (s t : Layout) → (link project).status ≡ 0 → (link q).status ≡ 0 → layout project ≡ Ok s → layout q ≡ Ok t
    → (q ≡ project)
    ⊎ IsCounted (record { project = project; layout = s }) change (record { project = q; layout = t }) before after

-- objects are read and names decided as said above, whether a link has faults or not; and between two links without
-- faults all five counts keep to the bound of an incremental linker, and are those of what was worked out
abbrev pub IsWholeWork : Project → Change → Project → Counts → Counts → Type 0
IsWholeWork project change q before after =
    IsReadingWork project change q before after × IsSessionWork project change q before after
    × HasCounted project change q before after
