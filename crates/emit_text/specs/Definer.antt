-- What defines a name in the output, which is less than how it is resolved.
use Rattle.std.specs.Prelude.{ℕ, List, Bool, true, false, codes}
use Rattle.ldmodel.specs.NameFaults.{object_name}
use Rattle.ldmodel.specs.Names.{Decision, Strong, Script, Common, Weak, Provided, Undefined, Duplicate}
use Rattle.ldmodel.specs.Project.{Project}
use Rattle.emit_text.specs.declared.definer.Definer.{Definer}
use Rattle.emit_text.specs.declared.definer.Definer.TheVariants as definer

-- what defines a name that is resolved so
abbrev pub definer_of : Decision → Definer
definer_of (Strong entry) = definer.Object (record { 0 = entry.object })
definer_of Script = definer.Script
definer_of (Common owner size alignment) = definer.Object (record { 0 = owner.object })
definer_of (Weak entry) = definer.WeakOf (record { 0 = entry.object })
definer_of Provided = definer.Script
definer_of Undefined = definer.Nothing
definer_of Duplicate = definer.Nothing

abbrev pub defines : Definer → Bool
defines definer.Nothing = false
defines definer.Script = true
defines (definer.Object place) = true
defines (definer.WeakOf place) = true

abbrev pub is_weak : Definer → Bool
is_weak definer.Nothing = false
is_weak definer.Script = false
is_weak (definer.Object place) = false
is_weak (definer.WeakOf place) = true

-- the name of the object, or `script`
abbrev pub owner_in : Project → Definer → List ℕ
owner_in project definer.Nothing = codes "script"
owner_in project definer.Script = codes "script"
owner_in project (definer.Object place) = object_name project place.0
owner_in project (definer.WeakOf place) = object_name project place.0
