-- A command without its payload, as it is read from its line.
use Rattle.std.specs.Prelude.{◌≡◌, ℕ, List, ◌∷◌, ◌++◌, length, codes, decimal, Option, Some, None}
use Rattle.std.specs.Borrow.{Bor}
use Rattle.ldmodel.specs.Commands as commands
use Rattle.ldmodel.specs.Commands.{Command, Edit, Ask, HasNo, HasWords, IsCommand, line}
use Rattle.ldmodel.specs.Edits.{Change, Add, Replace, Move, Remove, SetScript}
use Rattle.ldi_stream.specs.declared.head.PayloadTarget.{PayloadTarget}
use Rattle.ldi_stream.specs.declared.head.PayloadTarget.TheVariants as target
use Rattle.ldi_stream.specs.declared.head.EditHead.{EditHead}
use Rattle.ldi_stream.specs.declared.head.EditHead.TheVariants as edit
use Rattle.ldi_stream.specs.declared.head.CommandHead.{CommandHead}
use Rattle.ldi_stream.specs.declared.head.CommandHead.TheVariants as head
use Rattle.ldi_stream.specs.declared.head.Query.{Query}
use Rattle.ldi_stream.specs.declared.head.Query.TheVariants as query

abbrev pub query_of : Query → commands.Query
query_of query.Image = commands.Image
query_of query.Map = commands.Map
query_of query.Faults = commands.Faults

-- the edit that a payload is meant for
abbrev pub change_to : PayloadTarget → List ℕ → Change
change_to (target.Add name at) payload = Add name.now at payload
change_to (target.Replace name) payload = Replace name.now payload
change_to target.Script payload = SetScript payload

-- the edit that a head becomes with a payload
abbrev pub edit_of : EditHead → List ℕ → Change
edit_of (edit.WithPayload a count) payload = change_to a payload
edit_of (edit.Move name to) payload = Move name.now to
edit_of (edit.Remove name) payload = Remove name.now

-- the length of the payload that a head announces
abbrev pub announced : EditHead → ℕ
announced (edit.WithPayload a count) = count
announced (edit.Move name to) = 0
announced (edit.Remove name) = 0

-- the first word of an edit's line
abbrev pub first_word : Change → List ℕ
first_word (Add name at bytes) = codes "add"
first_word (Replace name bytes) = codes "replace"
first_word (Move name to) = codes "move"
first_word (Remove name) = codes "remove"
first_word (SetScript text) = codes "script"

-- a place, and the length of a payload
abbrev pub numbers : ℕ → ℕ → List ℕ
numbers at count = decimal at ++ 32 ∷ decimal count

-- the words after the first
abbrev pub later_words : Change → List ℕ
later_words (Add name at bytes) = name ++ 32 ∷ numbers at (length bytes)
later_words (Replace name bytes) = name ++ 32 ∷ decimal (length bytes)
later_words (Move name to) = name ++ 32 ∷ decimal to
later_words (Remove name) = name
later_words (SetScript text) = decimal (length text)

-- an edit with these words
pub record IsEdit (first words : List ℕ) (change : Change) : Type 0 where
  pub in_range : HasWords change
  pub begins : first_word change ≡ first
  pub goes_on : later_words change ≡ words

-- with each payload of the length that it announces, the head is an edit with these words
abbrev pub IsRead : List ℕ → List ℕ → EditHead → Type 0
IsRead first words h = (payload : List ℕ) → length payload ≡ announced h → IsEdit first words (edit_of h payload)

-- no edit has these words
abbrev pub IsNoEdit : List ℕ → List ℕ → Type 0
IsNoEdit first words = (change : Change) → IsEdit first words change → ⊥

-- a command with this line
pub record HasLine (text : List ℕ) (command : Command) : Type 0 where
  pub is : IsCommand command
  pub spelled : line command ≡ text

-- what a line says, whatever its payload
abbrev pub Says : List ℕ → CommandHead → Type 0
Says text (head.Edit h) = (payload : List ℕ) → length payload ≡ announced h → HasLine text (Edit (edit_of h payload))
Says text (head.Ask q) = HasLine text (Ask (query_of q))

-- no command has this line
abbrev pub SaysNothing : List ℕ → Type 0
SaysNothing text = (command : Command) → HasLine text command → ⊥

-- bytes cut at their first space, if they have one
abbrev pub SplitsWord : List ℕ → Option (Bor (List ℕ) × Bor (List ℕ)) → Type 0
SplitsWord bytes None = HasNo 32 bytes
SplitsWord bytes (Some p) = (bytes ≡ p.0.now ++ 32 ∷ p.1.now) × HasNo 32 p.0.now
