-- What an edit makes of a project, or why it is refused. An object is read when it is added, so a project holds none
-- that is refused. A script is the one tree that its text spells, which is a relation, and so is `After`; no edit has
-- two outcomes. Options stay as they are. Edits, their limits and the order of refusals are the product's own.
use Rattle.std.specs.Prelude.{◌≡◌, ◌≢◌, ◌⊎◌, ℕ, ◌^◌, ◌≤◌, List, [], length, insert, remove, slice_set, slice_index_or}
use Rattle.std.specs.Prelude.{position, count_by, Option, Some, None, Result, Ok, Err, Bool, not, ◌||◌, ◌&&◌, nat_lt}
use Rattle.std.specs.Prelude.{nat_le, if◌then◌else◌, bytes_eq}
use Rattle.std.specs.List.{list_any, list_all}
use Rattle.elfobj.specs.Names.{is_graphic}
use Rattle.elfobj.specs.Object.{object_of}
use Rattle.elfobj.specs.Refusal.{object_refusal}
use Rattle.elfobj.specs.RefusalNumber as object
use Rattle.elfobj.specs.declared.refusal.ObjectRefusal.{ObjectRefusal}
use Rattle.ldscript.specs.RefusalNumber.{script_refusal_number}
use Rattle.ldscript.specs.Script.{IsScript, IsRefusal}
use Rattle.ldscript.specs.declared.refusal.ScriptRefusal.{ScriptRefusal}
use Rattle.ldscript.specs.declared.refusal.ScriptRefusal.TheVariants as reader
use Rattle.ldscript.specs.statements.declared.statement.Statement.{Statement}
use Rattle.ldmodel.specs.declared.edit.TheConstants.{MAX_OBJECTS, MAX_OBJECT_NAME, MAX_PAYLOAD}
use Rattle.ldmodel.specs.Project.{Project, NamedObject}
use Rattle.growth.specs.Memory.{no_memory}

-- an edit, apart from where its bytes lie: an object is added before a place, from 0 to the number of objects; the
-- object of a name becomes another, in its place; it goes to a place of the list without it; it is removed; the script
-- becomes that of a text
pub data Change : Type 0 where
  Add : (name : List ℕ) → (at : ℕ) → (bytes : List ℕ) → Change
  Replace : (name : List ℕ) → (bytes : List ℕ) → Change
  Move : (name : List ℕ) → (to : ℕ) → Change
  Remove : (name : List ℕ) → Change
  SetScript : (text : List ℕ) → Change

-- the name is in use; no object has it; the position is past the end; the object reader refuses; the script reader
-- refuses; a limit is passed; out of memory. Where a reader runs out of memory the refusal is `NoMemory`; `NotAnObject`
-- and `NotAScript` never hold the readers' own reason of that name
pub data Refusal : Type 0 where
  InUse : Refusal
  Unknown : Refusal
  PastEnd : Refusal
  NotAnObject : (why : ObjectRefusal) → Refusal
  NotAScript : (why : ScriptRefusal) → Refusal
  Limit : Refusal
  NoMemory : Refusal

-- the number under which a refusal is reported
abbrev pub edit_refusal_number : Refusal → ℕ
edit_refusal_number InUse = 1
edit_refusal_number Unknown = 2
edit_refusal_number PastEnd = 3
edit_refusal_number (NotAnObject why) = 4
edit_refusal_number (NotAScript why) = 5
edit_refusal_number Limit = 6
edit_refusal_number NoMemory = 7

-- for an object or a script the reader's own number, else 0
abbrev pub inner_number : Refusal → ℕ
inner_number (NotAnObject why) = object.refusal_number why
inner_number (NotAScript why) = script_refusal_number why
inner_number _ = 0

abbrev pub has_name : List ℕ → NamedObject → Bool
has_name name object = bytes_eq object.name name

-- where the object of a name stands
abbrev pub place_of : List NamedObject → List ℕ → Option ℕ
place_of objects name = position (has_name name) objects

abbrev pub is_in_use : List NamedObject → List ℕ → Bool
is_in_use objects name = list_any (has_name name) objects

-- no name stands twice
abbrev pub AreNamesDistinct : List NamedObject → Type 0
AreNamesDistinct objects = (name : List ℕ) → count_by (has_name name) objects ≤ 1

-- 1 to MAX_OBJECT_NAME bytes from `!` to `~`
unfoldable pub is_object_name : List ℕ → Bool
is_object_name name = nat_le 1 (length name) && nat_le (length name) MAX_OBJECT_NAME && list_all is_graphic name

-- more bytes of an object or a script than MAX_PAYLOAD
unfoldable pub is_too_long : List ℕ → Bool
is_too_long bytes = nat_lt MAX_PAYLOAD (length bytes)

-- MAX_OBJECTS objects: no more may be added
unfoldable pub is_full : List NamedObject → Bool
is_full objects = nat_le MAX_OBJECTS (length objects)

-- the refusals for which neither the object nor the script is looked at, in the order name in use, name unknown,
-- position past the end, limit
unfoldable pub early_refusal : Project → Change → Option Refusal
early_refusal project (Add name at bytes) =
    if is_in_use project.objects name then Some InUse
    else (if nat_lt (length project.objects) at then Some PastEnd
    else (if not (is_object_name name) || is_too_long bytes || is_full project.objects then Some Limit
    else None))
early_refusal project (Replace name bytes) =
    if not (is_in_use project.objects name) then Some Unknown
    else (if is_too_long bytes then Some Limit
    else None)
early_refusal project (Move name to) =
    if not (is_in_use project.objects name) then Some Unknown
    else (if nat_le (length project.objects) to then Some PastEnd
    else None)
early_refusal project (Remove name) = if not (is_in_use project.objects name) then Some Unknown else None
early_refusal project (SetScript text) = if is_too_long text then Some Limit else None

abbrev pub new_object : List ℕ → List ℕ → NamedObject
new_object name bytes = record { name = name; object = object_of bytes }

-- the object at a place becomes another
abbrev pub replaced : List NamedObject → NamedObject → Option ℕ → List NamedObject
replaced objects object None = objects
replaced objects object (Some i) = slice_set objects i object

-- the object at a place is taken out
abbrev pub removed : List NamedObject → Option ℕ → List NamedObject
removed objects None = objects
removed objects (Some i) = remove objects i

-- what a look-up past the end gives; no project has it
abbrev pub unnamed : NamedObject
unnamed = new_object [] []

-- the object at a place is taken out, and inserted before another place of the list without it
abbrev pub moved : List NamedObject → ℕ → Option ℕ → List NamedObject
moved objects to None = objects
moved objects to (Some i) = insert (remove objects i) to (slice_index_or objects i unnamed)

abbrev pub with_objects : Project → List NamedObject → Project
with_objects project objects = record project { objects = objects }

-- the next project, where no early refusal applies
abbrev pub Accepts : Project → Change → Project → Type 0
Accepts project (Add name at bytes) next =
    (object_refusal bytes ≡ None) × (next ≡ with_objects project (insert project.objects at (new_object name bytes)))
Accepts project (Replace name bytes) next =
    (object_refusal bytes ≡ None)
    × (next ≡ with_objects project (replaced project.objects (new_object name bytes) (place_of project.objects name)))
Accepts project (Move name to) next =
    next ≡ with_objects project (moved project.objects to (place_of project.objects name))
Accepts project (Remove name) next =
    next ≡ with_objects project (removed project.objects (place_of project.objects name))
Accepts project (SetScript text) next =
    (statements : List Statement) × IsScript text statements × (next ≡ record project { script = statements })

-- bytes that are no object
abbrev pub RefusesObject : List ℕ → Refusal → Type 0
RefusesObject bytes refusal = (why : ObjectRefusal) × (object_refusal bytes ≡ Some why) × (refusal ≡ NotAnObject why)

-- bytes that are no script; out of memory is no such refusal
abbrev pub RefusesScript : List ℕ → Refusal → Type 0
RefusesScript text refusal =
    (why : ScriptRefusal) × (why ≢ reader.NoMemory no_memory) × IsRefusal text why × (refusal ≡ NotAScript why)

-- what the readers refuse, where no early refusal applies
abbrev pub Refuses : Project → Change → Refusal → Type 0
Refuses project (Add name at bytes) refusal = RefusesObject bytes refusal
Refuses project (Replace name bytes) refusal = RefusesObject bytes refusal
Refuses project (Move name to) refusal = ⊥
Refuses project (Remove name) refusal = ⊥
Refuses project (SetScript text) refusal = RefusesScript text refusal

-- the next project, or the refusal
abbrev pub After : Project → Change → Result Project Refusal → Type 0
After project change (Ok next) = (early_refusal project change ≡ None) × Accepts project change next
After project change (Err refusal) =
    (early_refusal project change ≡ Some refusal)
    ⊎ ((early_refusal project change ≡ None) × Refuses project change refusal)

-- what a linker may answer: the refusal, or out of memory where no early refusal applies
abbrev pub RefusedAs : Project → Change → Refusal → Type 0
RefusedAs project change refusal =
    After project change (Err refusal) ⊎ ((early_refusal project change ≡ None) × (refusal ≡ NoMemory))
