-- What growing for an edit of the objects gives.
use Rattle.std.specs.Prelude.{◌≡◌, ◌≤◌, ℕ, List, Option, Some, is_some, true}
use Rattle.ldmodel.specs.Edits.{place_of}
use Rattle.ldmodel.specs.Project.{NamedObject}
use Rattle.ldmodel_project.specs.Listing.{Contents, objects_of}
use Rattle.ldmodel_project.specs.Next.{Fits, next_entries, edited_key}
use Rattle.ldmodel_project.specs.Edited.{ChangesOneObject}
use Rattle.ldmodel_project.specs.declared.staged.StagedObjects.{StagedObjects}

-- the staged edit fits what is kept, makes these objects of it, and says what it touches
pub record IsStaged (c : Contents) (s : StagedObjects) (next : List NamedObject) : Type 0 where
  pub fits : Fits c s
  pub makes : objects_of (next_entries c.entries s) ≡ next
  pub arranged : ChangesOneObject c.entries s

-- there may be more room, and all else is the same
pub record SameButRoom (old new : Contents) : Type 0 where
  pub same : new ≡ record old { room = new.room }
  pub room : old.room ≤ new.room

-- an object is touched, and this is its place before the edit
pub record IsEditing (place : Option ℕ) (s : StagedObjects) : Type 0 where
  pub touches : is_some (edited_key s.step) ≡ true
  pub before : s.places.before ≡ place

-- the touched object is that of the name, and stands there before the edit
pub record EditsNamed (objects : List NamedObject) (name : List ℕ) (s : StagedObjects) : Type 0 where
  pub place : ℕ
  pub is : place_of objects name ≡ Some place
  pub touching : IsEditing (Some place) s
