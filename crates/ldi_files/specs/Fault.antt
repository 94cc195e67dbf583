-- Which file a fault names, and what could not be done with it.
use Rattle.std.specs.Prelude.{◌≡◌, ◌≢◌, ◌⊎◌, ℕ, List, Contains, ⊤}
use Rattle.std.specs.declared.io.Error.{Error}
use Rattle.std.specs.declared.io.ErrorKind.TheVariants.{OutOfMemory}
use Rattle.std.specs.IoError.{error_kind}
use Rattle.ldi_files.specs.declared.fault.Action.{Action}
use Rattle.ldi_files.specs.declared.fault.Action.TheVariants.{Open, Read}
use Rattle.ldi_files.specs.declared.fault.FileFault.{FileFault}
use Rattle.ldi_files.specs.declared.fault.FileFault.TheVariants.{Memory, Failed}
use Rattle.ldi_files.specs.declared.writing.NewFile.{NewFile}

-- this error ended this action on the file of this name; it is one of the file exactly if memory did not run out
abbrev pub IsFaultOf : Action → List ℕ → Error → FileFault → Type 0
IsFaultOf action name error (Memory _) = error_kind error ≡ OutOfMemory
IsFaultOf action name error (Failed a n e) =
    (a ≡ action) × (n.now ≡ name) × (e ≡ error) × (error_kind error ≢ OutOfMemory)

-- memory ran out, or an input of one of these names cannot be opened or read
abbrev pub IsInputFault : List (List ℕ) → FileFault → Type 0
IsInputFault names (Memory _) = ⊤
IsInputFault names (Failed action name error) = Contains names name.now × ((action ≡ Open) ⊎ (action ≡ Read))

-- memory ran out, or an output of one of these names cannot be opened, written or replaced
abbrev pub IsOutputFault : List (List ℕ) → FileFault → Type 0
IsOutputFault names (Memory _) = ⊤
IsOutputFault names (Failed action name error) = Contains names name.now × (action ≢ Read)

-- the name of a file that is to be written
abbrev pub name_of : NewFile → List ℕ
name_of file = file.name.now
