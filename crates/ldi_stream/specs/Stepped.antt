-- What the steps of a run do, by cases on their results, over what the devices show and what the linker holds.
use Rattle.std.specs.Prelude.{◌≡◌, ℕ, ◌<◌, ◌≤◌, ◌⊎◌, List, [], ◌∷◌, ◌++◌, length, take}
use Rattle.std.specs.Prelude.{Option, Some, None, Result, Ok, Err, MatchResult}
use Rattle.std.specs.Io.KnownBytes.{Consumes, Appends, Keeps, IsAtEnd, append_known}
use Rattle.ldmodel.specs.Answers.{Reply, EditReply, stream_line}
use Rattle.ldmodel.specs.Commands.{Command, IsCommand, HasNo, spelling}
use Rattle.ldmodel.specs.Edits.{Change}
use Rattle.ldi_stream.specs.Ran.{World, AtEnd, AtBad, CutShort, AnswerCut, BadCut, risen}
use Rattle.ldi_stream.specs.declared.Status.TheVariants.{Malformed}
use Rattle.ldi_stream.specs.declared.fault.RunFault.{RunFault}
use Rattle.ldi_stream.specs.declared.fault.RunFault.TheVariants.{Read, Write, Long}
use Rattle.ldi_stream.specs.declared.line.LineEnd.{LineEnd}
use Rattle.ldi_stream.specs.declared.line.LineEnd.TheVariants.{Line, Ended, Broken}
use Rattle.ldi_stream.specs.declared.payload.Payload.{Payload}
use Rattle.ldi_stream.specs.declared.payload.Payload.TheVariants.{Whole, NoMemory, Short}
use Rattle.ldi_stream.specs.declared.serve.ServeStep.{ServeStep}
use Rattle.ldi_stream.specs.declared.serve.ServeStep.TheVariants.{Next, End}

-- what a reader has left, and how many of its calls failed
pub record ReaderState : Type 0 where
  pub rest : Option (List ℕ)
  pub failed : ℕ

-- what the writer beneath has got, what is still held back from it, and how many of its calls failed
pub record WriterState : Type 0 where
  pub sent : Option (List ℕ)
  pub held : List ℕ
  pub failed : ℕ

-- what was written: what is held back comes after what was sent
abbrev pub written_in : WriterState → Option (List ℕ)
written_in sink = append_known sink.sent sink.held

-- each failed call raises the count by one, and no other changes it
abbrev pub CountsFailure : {T E : Type 0} → ℕ → ℕ → Result T E → Type 0
CountsFailure old new result = MatchResult result (λ _. new ≡ old) (λ _. new ≡ risen old)

abbrev pub ByteRead : {E : Type 0} → Option (List ℕ) → Option (List ℕ) → Result (Option ℕ) E → Type 0
ByteRead old new (Ok (Some b)) = Consumes old new (b ∷ [])
ByteRead old new (Ok None) = Consumes old new [] × IsAtEnd new
ByteRead old new (Err e) = Keeps old new

abbrev pub LineRead : {E : Type 0} → Option (List ℕ) → Option (List ℕ) → List ℕ → Result LineEnd E → Type 0
LineRead old new line (Ok (Line n)) = (n ≤ 512) × HasNo 10 (take n line) × Consumes old new (take n line ++ 10 ∷ [])
LineRead old new line (Ok Ended) = Consumes old new [] × IsAtEnd new
LineRead old new line (Ok Broken) =
    (bytes : List ℕ) × (0 < length bytes) × HasNo 10 bytes × Consumes old new bytes
    × (IsAtEnd new ⊎ (512 < length bytes))
LineRead old new line (Err e) = (bytes : List ℕ) × HasNo 10 bytes × Consumes old new bytes

-- the text is written, or a beginning of it
abbrev pub Writes : {T E : Type 0} → Option (List ℕ) → Option (List ℕ) → List ℕ → Result T E → Type 0
Writes old new text result = MatchResult result (λ _. Appends old new text)
    (λ _. (n : ℕ) × Appends old new (take n text))

abbrev pub PayloadRead : {E : Type 0} → Option (List ℕ) → Option (List ℕ) → ℕ → Result Payload E → Type 0
PayloadRead old new n (Ok (Whole v)) = (length v.items ≡ n) × Consumes old new v.items
PayloadRead old new n (Ok (NoMemory _)) = (bytes : List ℕ) × (length bytes ≡ n) × Consumes old new bytes
PayloadRead old new n (Ok Short) = (bytes : List ℕ) × (length bytes < n) × Consumes old new bytes × IsAtEnd new
PayloadRead old new n (Err e) = (bytes : List ℕ) × (length bytes < n) × Consumes old new bytes

-- the same of a buffer that is filled, or to the end of the stream
abbrev pub Filled : {E : Type 0} → Option (List ℕ) → Option (List ℕ) → List ℕ → Result ℕ E → Type 0
Filled old new buf (Ok n) = (n ≤ length buf) × Consumes old new (take n buf) × (n < length buf → IsAtEnd new)
Filled old new buf (Err e) = (n : ℕ) × (n < length buf) × Consumes old new (take n buf)

-- one command: read whole, answered
pub record Served (old new : World) : Type 0 where
  pub command : Command
  pub answer : List ℕ
  pub is : IsCommand command
  pub read : Consumes old.rest new.rest (spelling command)
  pub wrote : Appends old.written new.written answer
  pub reply : Reply old.project command answer new.project

abbrev pub Stepped : World → World → Result ServeStep RunFault → Type 0
Stepped old new (Ok Next) = Served old new
Stepped old new (Ok (End status)) = AtEnd old new status ⊎ AtBad old new status
Stepped old new (Err Read) = CutShort old new
Stepped old new (Err Write) = AnswerCut old new ⊎ BadCut old new
Stepped old new (Err Long) = ⊥

-- the same of an edit whose line was read, with this number of bytes of payload to come, and of what it is with them
abbrev pub EditStepped : (List ℕ → Change) → ℕ → World → World → Result ServeStep RunFault → Type 0
EditStepped change n old new (Ok Next) =
    (payload answer : List ℕ) × (length payload ≡ n) × Consumes old.rest new.rest payload
    × Appends old.written new.written answer × EditReply old.project (change payload) answer new.project
EditStepped change n old new (Ok (End status)) =
    (part : List ℕ) × (length part < n) × Consumes old.rest new.rest part × IsAtEnd new.rest
    × Appends old.written new.written stream_line × (new.project ≡ old.project) × (status ≡ Malformed)
EditStepped change n old new (Err Read) =
    (part : List ℕ) × (length part < n) × Consumes old.rest new.rest part
    × Keeps old.written new.written × (new.project ≡ old.project)
EditStepped change n old new (Err Write) =
    ((payload answer : List ℕ) × (k : ℕ) × (length payload ≡ n) × Consumes old.rest new.rest payload
    × Appends old.written new.written (take k answer) × EditReply old.project (change payload) answer new.project)
    ⊎ ((part : List ℕ) × (k : ℕ) × (length part < n) × Consumes old.rest new.rest part × IsAtEnd new.rest
    × Appends old.written new.written (take k stream_line) × (new.project ≡ old.project))
EditStepped change n old new (Err Long) = ⊥
