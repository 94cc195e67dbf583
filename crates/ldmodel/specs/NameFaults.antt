-- The faults that names give. Each strong definition of a name after the first is one; where the script assigns the
-- name, that assignment is the first. An entry symbol that nothing defines is one. That these two are faults, and which
-- definition a fault names, is this project's own.
use Rattle.std.specs.Prelude.{ℕ, List, [], ◌∷◌, map, filter, Option, Some, None, Bool, false, not, ◌&&◌, ◌||◌}
use Rattle.std.specs.Prelude.{if◌then◌else◌, slice_get}
use Rattle.std.specs.Option.{option_map_or}
use Rattle.ldmodel.specs.ScriptNames.{is_assigned}
use Rattle.ldmodel.specs.InputSections.{is_same_entry}
use Rattle.ldmodel.specs.Names.{Decision, Undefined, Declaration, decision, declarations, entries, entry_symbol}
use Rattle.ldmodel.specs.Names.{is_strong}
use Rattle.ldmodel.specs.Project.{NamedObject, Project}

-- what defines a name: the script, or the object of this name
pub data Definer : Type 0 where
  ByScript : Definer
  ByObject : (name : List ℕ) → Definer

-- a name, the name of an object that defines it once more, and what defines it first
pub record DuplicateDefinition : Type 0 where
  pub name : List ℕ
  pub object : List ℕ
  pub first : Definer

-- the name of object number i
abbrev pub object_name : Project → ℕ → List ℕ
object_name project i = option_map_or (λ (object : NamedObject). object.name) (slice_get project.objects i) []

-- the strong definitions of a name
abbrev pub strong_definitions : Project → List ℕ → List Declaration
strong_definitions project name = filter is_strong (entries project.objects name)

abbrev pub is_first_of : List Declaration → Declaration → Bool
is_first_of [] declaration = false
is_first_of (first ∷ rest) declaration = is_same_entry first.entry declaration.entry

abbrev pub first_among : Project → List Declaration → Definer
first_among project [] = ByScript
first_among project (first ∷ rest) = ByObject (object_name project first.entry.object)

-- a strong definition that isn't the first one of its name
abbrev pub is_duplicate : Project → Declaration → Bool
is_duplicate project declaration =
    is_strong declaration
    && (is_assigned project.script declaration.name
    || not (is_first_of (strong_definitions project declaration.name) declaration))

abbrev pub first_definer : Project → List ℕ → Definer
first_definer project name =
    if is_assigned project.script name then ByScript else first_among project (strong_definitions project name)

abbrev pub duplicate : Project → Declaration → DuplicateDefinition
duplicate project declaration =
    record {
      name = declaration.name;
      object = object_name project declaration.entry.object;
      first = first_definer project declaration.name;
    }

-- in object order, then symbol order
unfoldable pub duplicates : Project → List DuplicateDefinition
duplicates project = map (duplicate project) (filter (is_duplicate project) (declarations project.objects))

abbrev pub if_undefined : List ℕ → Decision → Option (List ℕ)
if_undefined name Undefined = Some name
if_undefined name _ = None

abbrev pub undefined_among : Project → Option (List ℕ) → Option (List ℕ)
undefined_among project None = None
undefined_among project (Some name) = if_undefined name (decision project name)

-- the entry symbol, if it is undefined
unfoldable pub undefined_entry : Project → Option (List ℕ)
undefined_entry project = undefined_among project (entry_symbol project)
