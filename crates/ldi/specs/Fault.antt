-- What ends a link of files before its outputs are written: which file a fault names, and the status then.
use Rattle.std.specs.Prelude.{◌⊎◌, ◌∷◌, ◌++◌, [], ℕ, List, Option, Some, None, ⊤, map, option_map, string_bytes}
use Rattle.ldi_files.specs.Fault.{IsInputFault, IsOutputFault}
use Rattle.ldi_files.specs.declared.fault.FileFault.TheVariants.{Memory, Failed}
use Rattle.ldi.specs.declared.link_command.CommandFault.{CommandFault}
use Rattle.ldi.specs.declared.link_command.CommandFault.TheVariants.{File, Seed, Clash}
use Rattle.ldi.specs.declared.link_command.FileNames.{FileNames}

-- the names of the files that are read: the script, then the objects
abbrev pub inputs : FileNames → List (List ℕ)
inputs names = string_bytes names.script ∷ map string_bytes names.objects.items

abbrev pub if_there : Option (List ℕ) → List (List ℕ)
if_there None = []
if_there (Some name) = name ∷ []

-- the names of the files that are written: the map, if there is one, then the image
abbrev pub outputs : FileNames → List (List ℕ)
outputs names = if_there (option_map string_bytes names.map) ++ string_bytes names.image ∷ []

-- a fault of a file is one of reading an input, or of writing an output, of these names
abbrev pub IsFaultAmong : (inputs outputs : List (List ℕ)) → CommandFault → Type 0
IsFaultAmong inputs outputs (File fault) = IsInputFault inputs fault ⊎ IsOutputFault outputs fault
IsFaultAmong inputs outputs (Seed error) = ⊤
IsFaultAmong inputs outputs (Clash clash) = ⊤

-- the status that `ldi link` ends with after a fault
abbrev pub fault_status : CommandFault → ℕ
fault_status (File (Memory _)) = 4
fault_status (File (Failed action name error)) = 3
fault_status (Seed error) = 3
fault_status (Clash clash) = 2
