-- The answers to a stream of commands of a deferred session, whose edits are not linked until it is asked. An answer
-- depends on the project as the edits have made it, on the last link, and on the image that was answered last.
use Rattle.std.specs.Prelude.{◌≡◌, ℕ, ◌⊎◌, List, [], ◌∷◌, ◌++◌, flat_map, Ok, Err, codes}
use Rattle.ldmodel.specs.Answers.{MayLackMemory, Status, Ended, Malformed, bytes_answer, linked_line}
use Rattle.ldmodel.specs.Answers.{refused_line, stream_line}
use Rattle.ldmodel.specs.Commands as session_commands
use Rattle.ldmodel.specs.Commands.{Edit, Ask, Query, Image, Map, Faults}
use Rattle.ldmodel.specs.Edits.{Change, After, Refusal, NoMemory}
use Rattle.ldmodel.specs.Link.{Link, link}
use Rattle.ldmodel.specs.Options.{LinkOptions}
use Rattle.ldmodel.specs.Project.{Project, empty_project}
use Rattle.ldmodel_deferred.specs.Changes.{AreChanges, changes_answer}
use Rattle.ldmodel_deferred.specs.Commands.{Command, Basic, MakeLink, AskChanges, AreCommands, IsBad, spelling}
use Rattle.ldmodel_deferred.specs.declared.changes.ByteRange.{ByteRange}

-- what a deferred session holds: the project, as the edits have made it; the last link, which the queries are of; and
-- the image that was answered last, or no byte if none was
pub record Holding : Type 0 where
  pub project : Project
  pub link : Link
  pub sent : List ℕ

abbrev pub holding : Project → Link → List ℕ → Holding
holding project link sent = record { project = project; link = link; sent = sent }

-- at first: the link of the project without objects
abbrev pub at_first : LinkOptions → Holding
at_first options = holding (empty_project options) (link (empty_project options)) []

-- `accepted`
abbrev pub accepted_line : List ℕ
accepted_line = codes "accepted" ++ 10 ∷ []

-- an edit is accepted or refused as in any session, and nothing is linked
pub data StageReply (project : Project) (change : Change) : List ℕ → Project → Type 0 where
  accepted : (next : Project) → After project change (Ok next) → StageReply project change accepted_line next
  refused : (refusal : Refusal) → After project change (Err refusal)
      → StageReply project change (refused_line refusal) project
  out_of_memory : MayLackMemory project change → StageReply project change (refused_line NoMemory) project

-- the image was answered; it is remembered, unless there is no memory for it
abbrev pub Remembers : (sent image : List ℕ) → Type 0
Remembers sent image = (sent ≡ image) ⊎ (sent ≡ [])

-- a query is of the last link
abbrev pub QueryReply : Holding → Query → List ℕ → Holding → Type 0
QueryReply old Image answer new =
    (answer ≡ bytes_answer old.link.image) × (new ≡ record old { sent = new.sent })
    × Remembers new.sent old.link.image
QueryReply old Map answer new = (answer ≡ bytes_answer old.link.map) × (new ≡ old)
QueryReply old Faults answer new = (answer ≡ bytes_answer old.link.faults) × (new ≡ old)

abbrev pub BasicReply : Holding → session_commands.Command → List ℕ → Holding → Type 0
BasicReply old (Edit change) answer new =
    StageReply old.project change answer new.project × (new ≡ record old { project = new.project })
BasicReply old (Ask query) answer new = QueryReply old query answer new

-- `link` links the project, or there is no memory for it
pub data LinkReply (old : Holding) : List ℕ → Holding → Type 0 where
  linked : LinkReply old (linked_line (link old.project)) (record old { link = link old.project })
  out_of_memory : LinkReply old (refused_line NoMemory) old

-- `changes` gives the image of the last link where it differs from the one that was answered last
pub record ChangesReply (old : Holding) (answer : List ℕ) (new : Holding) : Type 0 where
  pub ranges : List ByteRange
  pub changes : AreChanges old.sent old.link.image ranges
  pub answers : answer ≡ changes_answer old.link.image ranges
  pub same : new ≡ record old { sent = new.sent }
  pub remembers : Remembers new.sent old.link.image

abbrev pub Reply : Holding → Command → List ℕ → Holding → Type 0
Reply old (Basic command) answer new = BasicReply old command answer new
Reply old MakeLink answer new = LinkReply old answer new
Reply old AskChanges answer new = ChangesReply old answer new

-- command by command, from what is held at first to what is held at last
pub data Replies : Holding → List Command → List ℕ → Holding → Type 0 where
  none : {old : Holding} → Replies old [] [] old
  next : {old mid last : Holding} {command : Command} {commands : List Command} (answer rest : List ℕ)
      → Reply old command answer mid → Replies mid commands rest last
      → Replies old (command ∷ commands) (answer ++ rest) last

-- the end of the answers, by what is left of the stream after its commands
pub data Ending : List ℕ → List ℕ → Holding → Status → Type 0 where
  ended : (last : Holding) → Ending [] [] last (Ended last.link.status)
  bad : (tail : List ℕ) (last : Holding) → IsBad tail → Ending tail stream_line last Malformed

-- the stream is cut into commands, as many as possible, and each has its answer: `tail` is what is left of the stream
-- after the commands, `answers` are theirs, and `rest` is what is answered to the tail
pub record Answers (old : Holding) (stream out : List ℕ) (last : Holding) (status : Status) : Type 0 where
  pub commands : List Command
  pub tail : List ℕ
  pub answers : List ℕ
  pub rest : List ℕ
  pub each : AreCommands commands
  pub cut : stream ≡ flat_map spelling commands ++ tail
  pub replies : Replies old commands answers last
  pub ending : Ending tail rest last status
  pub all : out ≡ answers ++ rest

-- ---- beside a stream without the option

-- what is held right after a link: the link is that of the project
abbrev pub IsSettled : Holding → Type 0
IsSettled h = h.link ≡ link h.project

-- the edits and queries of these commands
abbrev pub without_links : List Command → List session_commands.Command
without_links [] = []
without_links (Basic command ∷ rest) = command ∷ without_links rest
without_links (MakeLink ∷ rest) = without_links rest
without_links (AskChanges ∷ rest) = without_links rest

-- `link` after each edit
abbrev pub linked_after : session_commands.Command → List Command → List Command
linked_after (Edit change) rest = Basic (Edit change) ∷ (MakeLink ∷ rest)
linked_after (Ask query) rest = Basic (Ask query) ∷ rest

abbrev pub with_links : List session_commands.Command → List Command
with_links [] = []
with_links (command ∷ rest) = linked_after command (with_links rest)

-- what is held where a session without the option holds a project, and these bytes were answered last
abbrev pub settled : Project → List ℕ → Holding
settled project sent = holding project (link project) sent
