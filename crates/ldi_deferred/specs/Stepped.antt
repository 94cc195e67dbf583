-- What the steps of a run of a deferred session do, by cases on their results.
use Rattle.std.specs.Prelude.{◌≡◌, ℕ, ◌<◌, ◌⊎◌, List, length, take, Option, Result, Ok, Err}
use Rattle.std.specs.Io.KnownBytes.{Consumes, Appends, Keeps, IsAtEnd}
use Rattle.ldmodel.specs.Answers.{stream_line}
use Rattle.ldmodel.specs.Edits.{Change}
use Rattle.ldmodel.specs.Project.{Project}
use Rattle.ldmodel_deferred.specs.Answers.{Reply, StageReply}
use Rattle.ldmodel_deferred.specs.Commands.{Command, IsCommand, spelling}
use Rattle.ldi_stream.specs.declared.Status.TheVariants.{Malformed}
use Rattle.ldi_stream.specs.declared.fault.RunFault.{RunFault}
use Rattle.ldi_stream.specs.declared.fault.RunFault.TheVariants.{Read, Write, Long}
use Rattle.ldi_stream.specs.declared.serve.ServeStep.{ServeStep}
use Rattle.ldi_stream.specs.declared.serve.ServeStep.TheVariants.{Next, End}
use Rattle.ldi_deferred.specs.Ran.{World, AtEnd, AtBad, CutShort, AnswerCut, BadCut}

-- one command: read whole, answered
pub record Served (old new : World) : Type 0 where
  pub command : Command
  pub answer : List ℕ
  pub is : IsCommand command
  pub read : Consumes old.rest new.rest (spelling command)
  pub wrote : Appends old.written new.written answer
  pub reply : Reply old.held command answer new.held

abbrev pub Stepped : World → World → Result ServeStep RunFault → Type 0
Stepped old new (Ok Next) = Served old new
Stepped old new (Ok (End status)) = AtEnd old new status ⊎ AtBad old new status
Stepped old new (Err Read) = CutShort old new
Stepped old new (Err Write) = AnswerCut old new ⊎ BadCut old new
Stepped old new (Err Long) = ⊥

-- the same of an edit whose line was read, with this number of bytes of payload to come, and of what it is with them:
-- over what the reader has left, what was written, and the project
abbrev pub EditStepped : (List ℕ → Change) → ℕ → (rest rest' written written' : Option (List ℕ)) → (old new : Project)
    → Result ServeStep RunFault → Type 0
EditStepped change n rest rest' written written' old new (Ok Next) =
    (payload answer : List ℕ) × (length payload ≡ n) × Consumes rest rest' payload
    × Appends written written' answer × StageReply old (change payload) answer new
EditStepped change n rest rest' written written' old new (Ok (End status)) =
    (part : List ℕ) × (length part < n) × Consumes rest rest' part × IsAtEnd rest'
    × Appends written written' stream_line × (new ≡ old) × (status ≡ Malformed)
EditStepped change n rest rest' written written' old new (Err Read) =
    (part : List ℕ) × (length part < n) × Consumes rest rest' part × Keeps written written' × (new ≡ old)
EditStepped change n rest rest' written written' old new (Err Write) =
    ((payload answer : List ℕ) × (k : ℕ) × (length payload ≡ n) × Consumes rest rest' payload
    × Appends written written' (take k answer) × StageReply old (change payload) answer new)
    ⊎ ((part : List ℕ) × (k : ℕ) × (length part < n) × Consumes rest rest' part × IsAtEnd rest'
    × Appends written written' (take k stream_line) × (new ≡ old))
EditStepped change n rest rest' written written' old new (Err Long) = ⊥
