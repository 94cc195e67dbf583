-- What a session leaves, faults of the devices included.
use Rattle.std.specs.Prelude.{ℕ, List, [], Option, Result, IfOk, IfSome}
use Rattle.std.specs.Io.KnownBytes.{Appends}
use Rattle.ldmodel.specs.Answers.{Answers}
use Rattle.ldmodel.specs.Project.{Project}
use Rattle.ldi_stream.specs.Ran.{Ran, Flushed, status_of, world}
use Rattle.ldi_stream.specs.Stepped.{ReaderState, WriterState, written_in}
use Rattle.ldi_stream.specs.declared.Status.{Status}
use Rattle.ldi_stream.specs.declared.fault.RunFault.{RunFault}

-- from a project on: from what the reader had to read and the writer showed before, to what that writer has got at the
-- end. The answers to the stream are those of the definition
abbrev pub HasAnswered : Project → (stream before : Option (List ℕ)) → WriterState → Result Status RunFault → Type 0
HasAnswered project stream before sink outcome =
    IfOk outcome (λ status. IfSome stream (λ bytes. (out : List ℕ) × (last : Project)
    × Appends before sink.sent out
    × Answers project bytes out last (status_of status)))

-- what stands after each outcome: what is left to read, what was written, of which something is held back only where a
-- write failed, and the project at the end
pub record Leaves (from : Project) (stream before : Option (List ℕ)) (source : ReaderState) (sink : WriterState)
    (outcome : Result Status RunFault) : Type 0 where
  pub last : Project
  pub ran : Ran (world stream before from) (world source.rest (written_in sink) last) outcome
  pub sent : Flushed [] sink.held outcome
