-- Symbols of objects of a project, and what their names stand for.
use Rattle.std.specs.Prelude.{◌≡◌, ℕ, Option, Some, None, slice_get, true, false}
use Rattle.std.specs.Option.{option_map}
use Rattle.elfobj.specs.Object.{ObjectData}
use Rattle.elfobj.specs.Symbols.{NamedSymbol}
use Rattle.ldmodel.specs.CodeValues.{decision_of}
use Rattle.ldmodel.specs.Names.{decision, is_local}
use Rattle.ldmodel.specs.Project.{NamedObject, Project}
use Rattle.ldmodel.specs.declared.names.Case.{Case}
use Rattle.ldmodel.specs.declared.names.ObjectPlace.{ObjectPlace}

-- the object at this place of the project
abbrev pub IsObjectAt : Project → ℕ → ObjectData → Type 0
IsObjectAt project i object =
    option_map (λ (object : NamedObject). object.object) (slice_get project.objects i) ≡ Some object

-- a local symbol has no case; that of another is what its name stands for
abbrev pub IsCaseOf : Project → NamedSymbol → Option (Case ObjectPlace) → Type 0
IsCaseOf project symbol None = is_local symbol.symbol.binding ≡ true
IsCaseOf project symbol (Some c) =
    (is_local symbol.symbol.binding ≡ false) × (decision_of (λ key. key) c ≡ decision project symbol.name)
