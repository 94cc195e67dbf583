-- What a run leaves, by cases on its result, over what the devices show and what the linker holds.
use Rattle.std.specs.Prelude.{◌≡◌, ℕ, ◌+◌, ◌-◌, ◌^◌, min, ◌⊎◌, List, [], length, take, flat_map, Option, IfSome}
use Rattle.std.specs.Prelude.{Result, Ok, Err}
use Rattle.std.specs.Io.KnownBytes.{Consumes, Appends, Keeps, IsAtEnd}
use Rattle.ldmodel.specs.Answers as answers
use Rattle.ldmodel.specs.Answers.{Reply, Replies, stream_line}
use Rattle.ldmodel.specs.Commands.{Command, IsCommand, AreCommands, BeginsCommand, IsBad, spelling}
use Rattle.ldmodel.specs.Link.{link}
use Rattle.ldmodel.specs.Project.{Project}
use Rattle.ldi_stream.specs.declared.Status.{Status}
use Rattle.ldi_stream.specs.declared.Status.TheVariants.{Done, Malformed}
use Rattle.ldi_stream.specs.declared.fault.RunFault.{RunFault}
use Rattle.ldi_stream.specs.declared.fault.RunFault.TheVariants.{Read, Write, Long}

-- how a session ends
abbrev pub status_of : Status → answers.Status
status_of (Done status) = answers.Ended status
status_of Malformed = answers.Malformed

-- what the devices show and what the linker holds
pub record World : Type 0 where
  pub rest : Option (List ℕ)
  pub written : Option (List ℕ)
  pub project : Project

abbrev pub world : Option (List ℕ) → Option (List ℕ) → Project → World
world rest written project = record { rest = rest; written = written; project = project }

-- whole commands: read, answered, and nothing else
pub record Progress (old new : World) : Type 0 where
  pub commands : List Command
  pub answers : List ℕ
  pub each : AreCommands commands
  pub read : Consumes old.rest new.rest (flat_map spelling commands)
  pub wrote : Appends old.written new.written answers
  pub replies : Replies old.project commands answers new.project

-- the stream ends, or goes on badly
pub record AtEnd (old new : World) (status : Status) : Type 0 where
  pub read : Consumes old.rest new.rest []
  pub at : IsAtEnd new.rest
  pub wrote : Keeps old.written new.written
  pub same : new.project ≡ old.project
  pub tells : status ≡ Done (link old.project).status

pub record AtBad (old new : World) (status : Status) : Type 0 where
  pub bad : IfSome old.rest IsBad
  pub wrote : Appends old.written new.written stream_line
  pub same : new.project ≡ old.project
  pub tells : status ≡ Malformed

-- a read failed within a command, and nothing was done about it
pub record CutShort (old new : World) : Type 0 where
  pub part : List ℕ
  pub read : Consumes old.rest new.rest part
  pub none : BeginsCommand part → ⊥
  pub wrote : Keeps old.written new.written
  pub same : new.project ≡ old.project

-- a write failed within the answer to the last whole command that was read
pub record AnswerCut (old new : World) : Type 0 where
  pub command : Command
  pub answer : List ℕ
  pub n : ℕ
  pub is : IsCommand command
  pub read : Consumes old.rest new.rest (spelling command)
  pub wrote : Appends old.written new.written (take n answer)
  pub reply : Reply old.project command answer new.project

-- or within the answer to a bad tail
pub record BadCut (old new : World) : Type 0 where
  pub bad : IfSome old.rest IsBad
  pub n : ℕ
  pub wrote : Appends old.written new.written (take n stream_line)
  pub same : new.project ≡ old.project

-- what a run leaves: whole commands up to some moment, and then one step that is its last
abbrev pub Ran : World → World → Result Status RunFault → Type 0
Ran old new (Ok status) = (mid : World) × Progress old mid × (AtEnd mid new status ⊎ AtBad mid new status)
Ran old new (Err Read) = (mid : World) × Progress old mid × CutShort mid new
Ran old new (Err Write) = (mid : World) × Progress old mid × (AnswerCut mid new ⊎ BadCut mid new)
Ran old new (Err Long) = (done : Progress old new) × (length done.commands ≡ 2 ^ 64 - 1)

-- one more, or the greatest number where that is reached
abbrev pub risen : ℕ → ℕ
risen n = min (n + 1) (2 ^ 64 - 1)

-- the counts rose at the fault that is reported, and at no other time
abbrev pub FaultsCounted : {T : Type 0} → ℕ → ℕ → ℕ → ℕ → Result T RunFault → Type 0
FaultsCounted r r' w w' (Ok _) = (r' ≡ r) × (w' ≡ w)
FaultsCounted r r' w w' (Err Read) = (r' ≡ risen r) × (w' ≡ w)
FaultsCounted r r' w w' (Err Write) = (r' ≡ r) × (w' ≡ risen w)
FaultsCounted r r' w w' (Err Long) = (r' ≡ r) × (w' ≡ w)

-- answers are not held back: nothing of what was written is, where a read fails, as any read might, and at the end
abbrev pub Flushed : {T : Type 0} → List ℕ → List ℕ → Result T RunFault → Type 0
Flushed old new (Ok _) = old ≡ [] → new ≡ []
Flushed old new (Err Read) = old ≡ [] → new ≡ []
Flushed old new (Err Write) = Unit {0}
Flushed old new (Err Long) = old ≡ [] → new ≡ []
