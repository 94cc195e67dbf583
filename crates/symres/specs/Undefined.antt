-- An entry symbol that nothing defines.
use Rattle.std.specs.Prelude.{Bool, true, false, List, [], ◌∷◌}
use Rattle.ldmodel.specs.declared.fault.Fault as code
use Rattle.ldmodel.specs.declared.fault.Fault.TheVariants as variant
use Rattle.ldmodel.specs.declared.names.Case.{Case}
use Rattle.ldmodel.specs.declared.names.Case.TheVariants as case
use Rattle.ldmodel.specs.declared.names.ObjectPlace.{ObjectPlace}

abbrev pub is_undefined : Case ObjectPlace → Bool
is_undefined case.Undefined = true
is_undefined _ = false

-- the fault, if there is one
abbrev pub faults_if : Bool → List code.Fault
faults_if true = variant.UndefinedEntry ∷ []
faults_if false = []
