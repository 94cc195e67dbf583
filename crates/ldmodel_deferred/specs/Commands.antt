-- The commands of a deferred session, and how a stream spells them: those of a session, and two of one word. This
-- language is the product's own.
use Rattle.std.specs.Prelude.{◌≡◌, ◌≢◌, ℕ, List, [], ◌∷◌, ◌++◌, codes}
use Rattle.ldmodel.specs.Commands as session

-- an edit or a query, as in any session; `link`; and `changes`
pub data Command : Type 0 where
  Basic : (command : session.Command) → Command
  MakeLink : Command
  AskChanges : Command

-- the line of a command, without its line feed
abbrev pub line : Command → List ℕ
line (Basic command) = session.line command
line MakeLink = codes "link"
line AskChanges = codes "changes"

-- what follows the line feed
abbrev pub payload : Command → List ℕ
payload (Basic command) = session.payload command
payload MakeLink = []
payload AskChanges = []

abbrev pub spelling : Command → List ℕ
spelling command = line command ++ 10 ∷ payload command

-- a command that a stream can spell
abbrev pub IsCommand : Command → Type 0
IsCommand (Basic command) = session.IsCommand command
IsCommand MakeLink = Unit {0}
IsCommand AskChanges = Unit {0}

abbrev pub AreCommands : List Command → Type 0
AreCommands [] = Unit {0}
AreCommands (command ∷ rest) = IsCommand command × AreCommands rest

-- a command begins these bytes
pub record BeginsCommand (bytes : List ℕ) : Type 0 where
  pub command : Command
  pub more : List ℕ
  pub is : IsCommand command
  pub cut : bytes ≡ spelling command ++ more

-- something is left, and no command begins it
pub record IsBad (tail : List ℕ) : Type 0 where
  pub some : tail ≢ []
  pub none : BeginsCommand tail → ⊥
