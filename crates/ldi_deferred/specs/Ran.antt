-- What a run of a deferred session leaves, by cases on its result, over what the devices show and what is held.
use Rattle.std.specs.Prelude.{◌≡◌, ℕ, ◌-◌, ◌^◌, ◌⊎◌, List, [], length, take, flat_map, Option, IfSome}
use Rattle.std.specs.Prelude.{Result, Ok, Err}
use Rattle.std.specs.Io.KnownBytes.{Consumes, Appends, Keeps, IsAtEnd}
use Rattle.ldmodel.specs.Answers.{stream_line}
use Rattle.ldmodel_deferred.specs.Answers.{Holding, Reply, Replies}
use Rattle.ldmodel_deferred.specs.Commands.{Command, IsCommand, AreCommands, BeginsCommand, IsBad, spelling}
use Rattle.ldi_stream.specs.declared.Status.{Status}
use Rattle.ldi_stream.specs.declared.Status.TheVariants.{Done, Malformed}
use Rattle.ldi_stream.specs.declared.fault.RunFault.{RunFault}
use Rattle.ldi_stream.specs.declared.fault.RunFault.TheVariants.{Read, Write, Long}

-- what the devices show and what the linker holds
pub record World : Type 0 where
  pub rest : Option (List ℕ)
  pub written : Option (List ℕ)
  pub held : Holding

abbrev pub world : Option (List ℕ) → Option (List ℕ) → Holding → World
world rest written held = record { rest = rest; written = written; held = held }

-- whole commands: read, answered, and nothing else
pub record Progress (old new : World) : Type 0 where
  pub commands : List Command
  pub answers : List ℕ
  pub each : AreCommands commands
  pub read : Consumes old.rest new.rest (flat_map spelling commands)
  pub wrote : Appends old.written new.written answers
  pub replies : Replies old.held commands answers new.held

-- the stream ends, or goes on badly
pub record AtEnd (old new : World) (status : Status) : Type 0 where
  pub read : Consumes old.rest new.rest []
  pub at : IsAtEnd new.rest
  pub wrote : Keeps old.written new.written
  pub same : new.held ≡ old.held
  pub tells : status ≡ Done old.held.link.status

pub record AtBad (old new : World) (status : Status) : Type 0 where
  pub bad : IfSome old.rest IsBad
  pub wrote : Appends old.written new.written stream_line
  pub same : new.held ≡ old.held
  pub tells : status ≡ Malformed

-- a read failed within a command, and nothing was done about it
pub record CutShort (old new : World) : Type 0 where
  pub part : List ℕ
  pub read : Consumes old.rest new.rest part
  pub none : BeginsCommand part → ⊥
  pub wrote : Keeps old.written new.written
  pub same : new.held ≡ old.held

-- a write failed within the answer to the last whole command that was read
pub record AnswerCut (old new : World) : Type 0 where
  pub command : Command
  pub answer : List ℕ
  pub n : ℕ
  pub is : IsCommand command
  pub read : Consumes old.rest new.rest (spelling command)
  pub wrote : Appends old.written new.written (take n answer)
  pub reply : Reply old.held command answer new.held

-- or within the answer to a bad tail
pub record BadCut (old new : World) : Type 0 where
  pub bad : IfSome old.rest IsBad
  pub n : ℕ
  pub wrote : Appends old.written new.written (take n stream_line)
  pub same : new.held ≡ old.held

-- what a run leaves: whole commands up to some moment, and then one step that is its last
abbrev pub Ran : World → World → Result Status RunFault → Type 0
Ran old new (Ok status) = (mid : World) × Progress old mid × (AtEnd mid new status ⊎ AtBad mid new status)
Ran old new (Err Read) = (mid : World) × Progress old mid × CutShort mid new
Ran old new (Err Write) = (mid : World) × Progress old mid × (AnswerCut mid new ⊎ BadCut mid new)
Ran old new (Err Long) = (done : Progress old new) × (length done.commands ≡ 2 ^ 64 - 1)
