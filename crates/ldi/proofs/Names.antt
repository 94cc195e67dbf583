use Rattle.std.proofs.Common.{rules, ◌≡◌, ◌∷◌, [], ℕ, ◌<◌, ◌∙◌, List, length, map, get_or, ap, sym, arith}
use Rattle.std.proofs.lemmas.List.{get_or-map, length-map}
use Rattle.std.proofs.lemmas.List.Elements.{Contains-append_right}
use Rattle.std.specs.Prelude.{Contains}
use Rattle.ldi.specs.Fault.{IsFaultAmong}
use Rattle.ldi.specs.declared.link_command.CommandFault.{CommandFault}
use Rattle.ldi.specs.declared.link_command.CommandFault.TheVariants.{File, Seed, Clash}
use Rattle.ldi_files.specs.declared.fault.FileFault.TheVariants.{Memory, Failed}

-- the name of the object number `n` is among the names of all
pub contains_name : {X : Type 0} (name_of : X → List ℕ) (objects : List X) (n : ℕ) (object : X)
    → n < length objects → object ≡ get_or objects n object → Contains (map name_of objects) (name_of object)
contains_name name_of objects n object lt is = (
  n,
  omega (arith, length-map objects name_of, lt),
  get_or-map name_of objects n object (name_of object) lt ∙ ap name_of (sym is),
)

-- a fault of one object is a fault of all inputs
pub fault_of_object : (script name : List ℕ) (objects : List (List ℕ)) → Contains objects name
    → (fault : CommandFault) → IsFaultAmong (name ∷ []) [] fault → IsFaultAmong (script ∷ objects) [] fault
fault_of_object script name objects has (Seed error) h = h
fault_of_object script name objects has (Clash clash) h = h
fault_of_object script name objects has (File (Memory _)) h = search rules
fault_of_object script name objects has (File (Failed action n error)) h =
    let all = Contains-append_right (script ∷ []) objects name has in search (rules, all, h)
