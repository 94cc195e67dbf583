-- Why words come to no call, and the status that a program then ends with.
use Rattle.std.specs.Prelude.{◌≡◌, ◌≢◌, ℕ, ⊤, List, true}
use Rattle.clap.specs.Words.{App, Text, kind_of, takes}
use Rattle.clap.specs.Kinds.{IsAmong}
use Rattle.clap.specs.Faults.{fault_of}
use Rattle.clap.specs.declared.error.Error.{Error}
use Rattle.clap.specs.declared.error.kind.ErrorKind.{ErrorKind}
use Rattle.clap.specs.declared.error.kind.ErrorKind.TheVariants.{DisplayHelp, DisplayVersion, OutOfMemory}
use Rattle.ldi_words.specs.declared.fault.WordsFault.{WordsFault}
use Rattle.ldi_words.specs.declared.fault.WordsFault.TheVariants.{Memory, Refused}

-- memory ran out, or the fault has a kind that `clap` states for the words, which it does not take
abbrev pub IsFaultAt : App → List Text → WordsFault → Type 0
IsFaultAt a words (Memory _) = ⊤
IsFaultAt a words (Refused e) =
    (takes a words ≢ true) × (kind_of e ≢ OutOfMemory) × IsAmong (kind_of e) (fault_of a words)

-- the fault that an error of `clap` comes to
abbrev pub IsFaultOf : Error → WordsFault → Type 0
IsFaultOf e (Memory _) = kind_of e ≡ OutOfMemory
IsFaultOf e (Refused d) = (d ≡ e) × (kind_of e ≢ OutOfMemory)

-- the status after help, the version or a refusal
abbrev pub status_of_kind : ErrorKind → ℕ
status_of_kind DisplayHelp = 0
status_of_kind DisplayVersion = 0
status_of_kind _ = 2

-- the status after a fault
abbrev pub exit_status : WordsFault → ℕ
exit_status (Memory _) = 4
exit_status (Refused e) = status_of_kind (kind_of e)
