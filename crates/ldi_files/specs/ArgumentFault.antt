-- The faults of a command line that names a file, and the status that a program then ends with.
use Rattle.std.specs.Prelude.{◌≡◌, ℕ, List, ⊤, string_bytes}
use Rattle.std.specs.declared.io.Error.{Error}
use Rattle.ldi_files.specs.declared.argument_fault.ArgumentFault.{ArgumentFault}
use Rattle.ldi_files.specs.declared.argument_fault.ArgumentFault.TheVariants.{Words, Unread, Unwritten, Memory}

-- memory ran out, or the file of this name cannot be read because of this error
abbrev pub IsFaultOfFile : List ℕ → Error → ArgumentFault → Type 0
IsFaultOfFile name error (Memory _) = ⊤
IsFaultOfFile name error (Unread n e) = (string_bytes n ≡ name) × (e ≡ error)
IsFaultOfFile name error Words = ⊥
IsFaultOfFile name error (Unwritten e) = ⊥

-- memory ran out, or standard output cannot be written because of this error
abbrev pub IsOutputFault : Error → ArgumentFault → Type 0
IsOutputFault error (Memory _) = ⊤
IsOutputFault error (Unwritten e) = e ≡ error
IsOutputFault error Words = ⊥
IsOutputFault error (Unread n e) = ⊥

-- the statuses of `ldi`
abbrev pub exit_status : ArgumentFault → ℕ
exit_status Words = 2
exit_status (Unread name error) = 3
exit_status (Unwritten error) = 3
exit_status (Memory _) = 4
