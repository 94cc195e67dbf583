-- What a deferred session leaves, faults of the devices included.
use Rattle.std.specs.Prelude.{ℕ, List, [], Option, Result, IfOk, IfSome}
use Rattle.std.specs.Io.KnownBytes.{Appends}
use Rattle.ldmodel_deferred.specs.Answers.{Answers, Holding}
use Rattle.ldi_stream.specs.Ran.{Flushed, status_of}
use Rattle.ldi_stream.specs.Stepped.{ReaderState, WriterState, written_in}
use Rattle.ldi_stream.specs.declared.Status.{Status}
use Rattle.ldi_stream.specs.declared.fault.RunFault.{RunFault}
use Rattle.ldi_deferred.specs.Ran.{Ran, world}

-- from what is held on: from what the reader had to read and the writer showed before, to what that writer has got at
-- the end. The answers to the stream are those of the definition
abbrev pub HasAnswered : Holding → (stream before : Option (List ℕ)) → WriterState → Result Status RunFault → Type 0
HasAnswered held stream before sink outcome =
    IfOk outcome (λ status. IfSome stream (λ bytes. (out : List ℕ) × (last : Holding)
    × Appends before sink.sent out
    × Answers held bytes out last (status_of status)))

-- what stands after each outcome: what is left to read, what was written, of which something is held back only where a
-- write failed, and what is held at the end
pub record Leaves (from : Holding) (stream before : Option (List ℕ)) (source : ReaderState) (sink : WriterState)
    (outcome : Result Status RunFault) : Type 0 where
  pub last : Holding
  pub ran : Ran (world stream before from) (world source.rest (written_in sink) last) outcome
  pub sent : Flushed [] sink.held outcome
