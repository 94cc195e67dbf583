-- What a project is kept as, and what a staged edit makes of it.
use Rattle.std.specs.Prelude.{◌≡◌, ◌⊎◌, List, Some, None, Result, Ok, Err, unwrap_or, IfSome}
use Rattle.ldscript.specs.statements.declared.statement.Statement.{Statement}
use Rattle.ldmodel.specs.Counts.{Counts}
use Rattle.ldmodel.specs.Edits.{Change, Add, Replace, Move, Remove, SetScript, After, RefusedAs}
use Rattle.ldmodel.specs.Options.{LinkOptions}
use Rattle.ldmodel.specs.Project.{Project, NamedObject}
use Rattle.ldmodel.specs.Raised.{raised}
use Rattle.ldmodel.specs.declared.meter.Count.TheVariants.{Objects}
use Rattle.ldmodel.specs.EditMeaning.{refusal_of}
use Rattle.ldmodel_project.specs.Listing.{Listed, Contents, objects_of}
use Rattle.ldmodel_project.specs.Next.{Fits, next_entries, edited_key}
use Rattle.ldmodel_project.specs.Staging.{IsStaged, IsEditing, SameButRoom, EditsNamed}
use Rattle.ldmodel_project.specs.Edited.{ChangesOneObject}
use Rattle.ldmodel.specs.declared.edit.EditRefusal.{EditRefusal}
use Rattle.ldmodel.specs.declared.edit.EditRefusal.TheVariants.{NoMemory}
use Rattle.ldmodel_project.specs.declared.staged.Staged.{Staged}
use Rattle.growth.specs.Memory.{no_memory}

-- objects under keys, the script and the options
pub record Listing : Type 0 where
  pub entries : List Listed
  pub script : List Statement
  pub options : LinkOptions

abbrev pub project_of : Listing → Project
project_of l = record { objects = objects_of l.entries; script = l.script; options = l.options }

-- what is kept, with room for more
pub record ProjectState : Type 0 where
  pub contents : Contents
  pub script : List Statement
  pub options : LinkOptions

abbrev pub listing_of : ProjectState → Listing
listing_of state = record { entries = state.contents.entries; script = state.script; options = state.options }

-- the project that is kept
abbrev pub held : ProjectState → Project
held state = project_of (listing_of state)

-- what a staged edit makes of it
abbrev pub next_listing : ProjectState → Staged → Listing
next_listing state s = record {
  entries = next_entries state.contents.entries s.objects;
  script = unwrap_or s.script state.script;
  options = state.options;
}

-- there may be more room, and all else is the same
pub record SameHolding (old new : ProjectState) : Type 0 where
  pub contents : SameButRoom old.contents new.contents
  pub rest : new ≡ record old { contents = new.contents }

-- all growths of an edit of the objects alone, which leads to these; or there was no memory
abbrev pub Makes : ProjectState → List NamedObject → Result Staged EditRefusal → Type 0
Makes state next (Ok s) = IsStaged state.contents s.objects next × (s.script ≡ None)
Makes state next (Err r) = r ≡ NoMemory no_memory

-- the same of another script
abbrev pub MakesScript : ProjectState → List Statement → Result Staged EditRefusal → Type 0
MakesScript state next (Ok s) =
    IsStaged state.contents s.objects (held state).objects × (s.script ≡ Some next) × (edited_key s.objects.step ≡ None)
MakesScript state next (Err r) = r ≡ NoMemory no_memory

-- a staged script touches no object
abbrev pub EditsOne : Staged → Type 0
EditsOne s = IfSome s.script (λ _. edited_key s.objects.step ≡ None)

-- the edit is staged, leads where the definition says, and says what it touches; or it is refused
abbrev pub Stages : ProjectState → Change → Result Staged EditRefusal → Type 0
Stages state change (Ok s) =
    Fits state.contents s.objects × After (held state) change (Ok (project_of (next_listing state s)))
    × ChangesOneObject state.contents.entries s.objects × EditsOne s
Stages state change (Err r) = RefusedAs (held state) change (refusal_of r)

-- at most one object is read
abbrev pub ReadsAtMostOne : Counts → Counts → Type 0
ReadsAtMostOne before after = (after ≡ before) ⊎ (after ≡ raised before Objects 1)

-- at most one object is read, and none but for an edit that brings one
abbrev pub ReadsFor : Change → Counts → Counts → Type 0
ReadsFor (Add name at bytes) before after = ReadsAtMostOne before after
ReadsFor (Replace name bytes) before after = ReadsAtMostOne before after
ReadsFor _ before after = after ≡ before

abbrev pub ReadsAnObject : Counts → Counts → Type 0
ReadsAnObject before after = after ≡ raised before Objects 1

-- one object is read where an edit brings one
abbrev pub ReadsOne : Change → Counts → Counts → Type 0
ReadsOne (Add name at bytes) before after = ReadsAnObject before after
ReadsOne (Replace name bytes) before after = ReadsAnObject before after
ReadsOne _ before after = after ≡ before

-- the edit touches the object of its name, which stands where the name does before the edit; a new one stands nowhere
-- before, and then at its place. A script touches none
abbrev pub StandsAsNamed : Change → Contents → Staged → Type 0
StandsAsNamed (Add name at bytes) c s = IsEditing None s.objects × (s.objects.places.after ≡ Some at)
StandsAsNamed (Replace name bytes) c s = EditsNamed (objects_of c.entries) name s.objects
StandsAsNamed (Move name to) c s = EditsNamed (objects_of c.entries) name s.objects
StandsAsNamed (Remove name) c s = EditsNamed (objects_of c.entries) name s.objects
StandsAsNamed (SetScript text) c s = edited_key s.objects.step ≡ None
