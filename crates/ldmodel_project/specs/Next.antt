-- What a staged edit makes of the objects that are kept.
use Rattle.std.specs.Prelude.{◌≡◌, ℕ, ◌<◌, List, map, count_by, nat_eq, if◌then◌else◌, Option, Some, None}
use Rattle.std.specs.Prelude.{unwrap_or}
use Rattle.slab.specs.Slab.{Slab, get, ContainsKey, HasRoomFor}
use Rattle.ldmodel.specs.Edits.{unnamed, AreNamesDistinct}
use Rattle.ldmodel.specs.Project.{NamedObject}
use Rattle.ldmodel_project.specs.Listing.{Listed, Contents, objects_of, key_count, found_under}
use Rattle.ldmodel_project.specs.declared.staged.StagedObjects.{StagedObjects}
use Rattle.ldmodel_project.specs.declared.staged.Step.{Step}
use Rattle.ldmodel_project.specs.declared.staged.Step.TheVariants.{Put, Remove, Move, Stay}

-- the object under a key that is listed
abbrev pub named_under : List Listed → ℕ → NamedObject
named_under entries key = unwrap_or (found_under entries key) unnamed

-- the object that a step puts under a key
abbrev pub put_under : Step → ℕ → Option NamedObject
put_under (Put new named) key = if nat_eq key new then Some named else None
put_under (Remove old) key = None
put_under (Move moved) key = None
put_under Stay key = None

-- the key that a step removes
abbrev pub removed_key : Step → Option ℕ
removed_key (Put new named) = None
removed_key (Remove old) = Some old
removed_key (Move moved) = None
removed_key Stay = None

-- the key that a step touches: of the object that it puts, removes or moves
abbrev pub edited_key : Step → Option ℕ
edited_key (Put new named) = Some new
edited_key (Remove old) = Some old
edited_key (Move moved) = Some moved
edited_key Stay = None

-- what is under a key after a step
abbrev pub next_found : List Listed → Step → ℕ → Option NamedObject
next_found entries (Put new named) key = if nat_eq key new then Some named else found_under entries key
next_found entries (Remove old) key = if nat_eq key old then None else found_under entries key
next_found entries (Move moved) key = found_under entries key
next_found entries Stay key = found_under entries key

-- the object under a key after a step
abbrev pub next_named : List Listed → Step → ℕ → NamedObject
next_named entries step key = unwrap_or (put_under step key) (named_under entries key)

abbrev pub next_entry : List Listed → Step → ℕ → Listed
next_entry entries step key = record { key = key; named = next_named entries step key }

-- the objects in the staged order, the new one among them
abbrev pub next_entries : List Listed → StagedObjects → List Listed
next_entries entries s = map (next_entry entries s.step) s.order.items

-- how often a key is listed after a step
abbrev pub next_count : List Listed → Step → ℕ → ℕ
next_count entries (Put new named) key = if nat_eq key new then 1 else key_count entries key
next_count entries (Remove old) key = if nat_eq key old then 0 else key_count entries key
next_count entries (Move moved) key = key_count entries key
next_count entries Stay key = key_count entries key

-- a new key is the next one, and there is room; a listed key keeps its name; a key to be removed is listed
abbrev pub CanStep : Contents → Step → Type 0
CanStep c (Put new named) =
    (key_count c.entries new ≡ 0 → (new ≡ c.vacant_key) × (0 < c.room))
    × (0 < key_count c.entries new → named.name ≡ (named_under c.entries new).name)
CanStep c (Remove old) = 0 < key_count c.entries old
CanStep c (Move moved) = Unit {0}
CanStep c Stay = Unit {0}

-- the staged edit was made for what is kept
pub record Fits (c : Contents) (s : StagedObjects) : Type 0 where
  pub keys : (key : ℕ) → count_by (nat_eq key) s.order.items ≡ next_count c.entries s.step key
  pub names : AreNamesDistinct (objects_of (next_entries c.entries s))
  pub step : CanStep c s.step

-- a key that is listed before and after has one name
abbrev pub KeysAreStable : List Listed → List Listed → Type 0
KeysAreStable old new =
    (key : ℕ) → 0 < key_count old key → 0 < key_count new key → (named_under new key).name ≡ (named_under old key).name

-- the same of a slab
abbrev pub CanChange : Slab NamedObject → Step → Type 0
CanChange slots (Put new named) = get slots new ≡ None → (new ≡ slots.vacant_key) × HasRoomFor slots 1
CanChange slots (Remove old) = ContainsKey slots old
CanChange slots (Move moved) = Unit {0}
CanChange slots Stay = Unit {0}

-- what is under a key of a slab after a step
abbrev pub next_slot : Slab NamedObject → Step → ℕ → Option NamedObject
next_slot slots (Put new named) key = if nat_eq key new then Some named else get slots key
next_slot slots (Remove old) key = if nat_eq key old then None else get slots key
next_slot slots (Move moved) key = get slots key
next_slot slots Stay key = get slots key
