-- The answers to a stream of commands, command by command. An answer depends on the project at that point alone: how
-- the project came about has no part in it. This language is the product's own.
use Rattle.std.specs.Prelude.{◌≡◌, ℕ, ◌⊎◌, List, [], ◌∷◌, ◌++◌, length, flat_map, Ok, Err, codes, decimal}
use Rattle.ldmodel.specs.Commands.{Command, Edit, Ask, Query, Image, Map, Faults, AreCommands, IsBad, spelling}
use Rattle.ldmodel.specs.Project.{Project}
use Rattle.ldmodel.specs.Edits.{Change, Add, Replace, Move, Remove, SetScript, After, Refusal, NoMemory}
use Rattle.ldmodel.specs.Edits.{edit_refusal_number, inner_number}
use Rattle.ldmodel.specs.Link.{Link, link}

-- a word, two numbers and a line feed
unfoldable pub answer_line : List ℕ → ℕ → ℕ → List ℕ
answer_line word a b = word ++ 32 ∷ (decimal a ++ 32 ∷ (decimal b ++ 10 ∷ []))

-- `linked STATUS LENGTH`: the status of a link, and the length of its image
abbrev pub linked_line : Link → List ℕ
linked_line link = answer_line (codes "linked") link.status (length link.image)

-- `refused N M`
abbrev pub refused_line : Refusal → List ℕ
refused_line refusal = answer_line (codes "refused") (edit_refusal_number refusal) (inner_number refusal)

-- `bytes LENGTH`, and the bytes right after the line feed
unfoldable pub bytes_answer : List ℕ → List ℕ
bytes_answer bytes = codes "bytes" ++ 32 ∷ (decimal (length bytes) ++ 10 ∷ bytes)

-- a command with a payload needs memory to take it in; `move` and `remove` may run out of memory only where the edit is
-- accepted. That memory is short where this answer is given is said by the contracts of the code
abbrev pub MayLackMemory : Project → Change → Type 0
MayLackMemory project (Add name at bytes) = Unit {0}
MayLackMemory project (Replace name bytes) = Unit {0}
MayLackMemory project (SetScript text) = Unit {0}
MayLackMemory project (Move name to) = (next : Project) × After project (Move name to) (Ok next)
MayLackMemory project (Remove name) = (next : Project) × After project (Remove name) (Ok next)

-- an accepted edit is answered by the link of the next project; a refused one leaves the project as it was
pub data EditReply (project : Project) (change : Change) : List ℕ → Project → Type 0 where
  accepted : (next : Project) → After project change (Ok next) → EditReply project change (linked_line (link next)) next
  refused : (refusal : Refusal) → After project change (Err refusal)
      → EditReply project change (refused_line refusal) project
  out_of_memory : MayLackMemory project change → EditReply project change (refused_line NoMemory) project

-- what a query asks of a link
abbrev pub asked : Query → Link → List ℕ
asked Image link = link.image
asked Map link = link.map
asked Faults link = link.faults

abbrev pub Reply : Project → Command → List ℕ → Project → Type 0
Reply project (Edit change) answer next = EditReply project change answer next
Reply project (Ask query) answer next = (answer ≡ bytes_answer (asked query (link project))) × (next ≡ project)

-- command by command, from one project to the last
pub data Replies : Project → List Command → List ℕ → Project → Type 0 where
  none : {project : Project} → Replies project [] [] project
  next : {project mid last : Project} {command : Command} {commands : List Command} (answer rest : List ℕ)
      → Reply project command answer mid → Replies mid commands rest last
      → Replies project (command ∷ commands) (answer ++ rest) last

-- how a session ends: with the status of the link at the end of the stream, or at bytes that no command begins
pub data Status : Type 0 where
  Ended : (status : ℕ) → Status
  Malformed : Status

abbrev pub stream_line : List ℕ
stream_line = codes "stream" ++ 10 ∷ []

-- the end of the answers, by what is left of the stream after its commands
pub data Ending : List ℕ → List ℕ → Project → Status → Type 0 where
  ended : (last : Project) → Ending [] [] last (Ended (link last).status)
  bad : (tail : List ℕ) (last : Project) → IsBad tail → Ending tail stream_line last Malformed

-- the stream is cut into commands, as many as possible, and each has its answer: `tail` is what is left of the stream
-- after the commands, `answers` are theirs, and `rest` is what is answered to the tail
pub record Answers (project : Project) (stream out : List ℕ) (last : Project) (status : Status) : Type 0 where
  pub commands : List Command
  pub tail : List ℕ
  pub answers : List ℕ
  pub rest : List ℕ
  pub each : AreCommands commands
  pub cut : stream ≡ flat_map spelling commands ++ tail
  pub replies : Replies project commands answers last
  pub ending : Ending tail rest last status
  pub all : out ≡ answers ++ rest
