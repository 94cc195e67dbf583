-- What a staged edit changes under the key of the object that it touches.
use Rattle.std.specs.Prelude.{◌≡◌, ℕ, ◌++◌, List, [], Option, Some, None, is_some}
use Rattle.std.specs.Option.{option_map}
use Rattle.elfobj.specs.Object.{ObjectData}
use Rattle.symres.specs.decisions.Change.{Fits, changed_tables, declared_by, reversed}
use Rattle.symres.specs.decisions.Counted.{declared_in, declared_names}
use Rattle.symres.specs.decisions.declared.change.ObjectAt.{ObjectAt}
use Rattle.symres.specs.decisions.declared.change.ObjectChange.{ObjectChange}
use Rattle.ldmodel_project.specs.Listing.{Listed, found_under}
use Rattle.ldmodel_project.specs.Next.{next_entries, edited_key}
use Rattle.ldmodel_project.specs.Tables.{symbols_under, tables_under}
use Rattle.ldmodel_project.specs.declared.staged.StagedObjects.{StagedObjects}

-- an object at a place, as its contents say
abbrev pub shown_at : Option ObjectAt → Option (ℕ × ObjectData)
shown_at x = option_map (λ (y : ObjectAt). (y.place, y.object.now)) x

abbrev pub place_at : Option ObjectAt → Option ℕ
place_at x = option_map (λ (y : ObjectAt). y.place) x

-- a place and an object, where there are both
abbrev pub beside : Option ℕ → Option ObjectData → Option (ℕ × ObjectData)
beside None o = None
beside (Some i) None = None
beside (Some i) (Some o) = Some (i, o)

-- the names that the object under a key declares, where it stands at a place
abbrev pub names_at : Option ℕ → List Listed → ℕ → List (List ℕ)
names_at None entries key = []
names_at (Some i) entries key = declared_in (symbols_under entries key)

-- the change of the edit fits the tables of the objects under their keys, and leads to those of the next objects; the
-- change back leads back; and it is of the object under the key
pub record IsChange (entries : List Listed) (s : StagedObjects) (key : ℕ) (c : ObjectChange) : Type 0 where
  pub is : c.key.0 ≡ key
  pub fits : Fits (tables_under entries) c
  pub tables : changed_tables (tables_under entries) c ≡ tables_under (next_entries entries s)
  pub back : changed_tables (tables_under (next_entries entries s)) (reversed c) ≡ tables_under entries
  pub before : place_at c.out ≡ s.places.before
  pub after : place_at c.into ≡ s.places.after
  pub out : declared_by c.out ≡ names_at s.places.before entries key
  pub into : declared_by c.into ≡ names_at s.places.after (next_entries entries s) key
  pub there : is_some s.places.after ≡ is_some (found_under (next_entries entries s) key)

-- the names that an edit of the objects touches, and those of all objects, which one of the script does
abbrev pub names_of_step : List Listed → StagedObjects → Option ℕ → List (List ℕ)
names_of_step entries s None = declared_names (tables_under entries)
names_of_step entries s (Some key) =
    names_at s.places.before entries key ++ names_at s.places.after (next_entries entries s) key

abbrev pub names_of_edit : List Listed → StagedObjects → List (List ℕ)
names_of_edit entries s = names_of_step entries s (edited_key s.step)
