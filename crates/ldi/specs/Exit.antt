-- The status that the program ends with.
use Rattle.std.specs.Prelude.{ℕ, Result, Ok, Err}
use Rattle.ldi_stream.specs.declared.Status.{Status}
use Rattle.ldi_stream.specs.declared.Status.TheVariants.{Done, Malformed}
use Rattle.ldi_stream.specs.declared.fault.RunFault.{RunFault}

-- that of the link at the end of the stream, 2 after bytes that no command begins, 3 after a fault
abbrev pub exit_status : Result Status RunFault → ℕ
exit_status (Ok (Done status)) = status
exit_status (Ok Malformed) = 2
exit_status (Err fault) = 3
