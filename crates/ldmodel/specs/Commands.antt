-- The commands of a session and how a stream spells them: a line of at most 512 bytes, its line feed, and right after
-- it the payload whose length the line gives. This language is the product's own.
use Rattle.std.specs.Prelude.{◌≡◌, ◌≢◌, ℕ, ◌^◌, ◌<◌, ◌≤◌, List, [], ◌∷◌, ◌++◌, length, codes, decimal}
use Rattle.ldmodel.specs.Edits.{Change, Add, Replace, Move, Remove, SetScript}

-- what a query asks for
pub data Query : Type 0 where
  Image : Query
  Map : Query
  Faults : Query

pub data Command : Type 0 where
  Edit : (change : Change) → Command
  Ask : (query : Query) → Command

-- words with one space between them
abbrev pub with_space : List ℕ → List ℕ → List ℕ
with_space first rest = first ++ 32 ∷ rest

abbrev pub edit_line : Change → List ℕ
edit_line (Add name at bytes) =
    with_space (codes "add") (with_space name (with_space (decimal at) (decimal (length bytes))))
edit_line (Replace name bytes) = with_space (codes "replace") (with_space name (decimal (length bytes)))
edit_line (Move name to) = with_space (codes "move") (with_space name (decimal to))
edit_line (Remove name) = with_space (codes "remove") name
edit_line (SetScript text) = with_space (codes "script") (decimal (length text))

abbrev pub query_line : Query → List ℕ
query_line Image = codes "image"
query_line Map = codes "map"
query_line Faults = codes "faults"

-- the line of a command, without its line feed; `decimal` writes no needless zeros
unfoldable pub line : Command → List ℕ
line (Edit change) = edit_line change
line (Ask query) = query_line query

abbrev pub edit_payload : Change → List ℕ
edit_payload (Add name at bytes) = bytes
edit_payload (Replace name bytes) = bytes
edit_payload (Move name to) = []
edit_payload (Remove name) = []
edit_payload (SetScript text) = text

-- what follows the line feed
abbrev pub payload : Command → List ℕ
payload (Edit change) = edit_payload change
payload (Ask query) = []

abbrev pub spelling : Command → List ℕ
spelling command = line command ++ 10 ∷ payload command

-- bytes other than a given one
abbrev pub HasNo : ℕ → List ℕ → Type 0
HasNo byte [] = Unit {0}
HasNo byte (first ∷ rest) = (first ≢ byte) × HasNo byte rest

-- a nonempty run of bytes other than space and line feed
pub record IsWord (word : List ℕ) : Type 0 where
  pub some : 0 < length word
  pub no_space : HasNo 32 word
  pub no_feed : HasNo 10 word

abbrev pub IsPosition : ℕ → Type 0
IsPosition at = at < 2 ^ 64

abbrev pub IsPayload : List ℕ → Type 0
IsPayload bytes = length bytes ≤ 2 ^ 26

-- names are words, positions are below 2^64, payloads have at most 2^26 bytes
abbrev pub HasWords : Change → Type 0
HasWords (Add name at bytes) = IsWord name × IsPosition at × IsPayload bytes
HasWords (Replace name bytes) = IsWord name × IsPayload bytes
HasWords (Move name to) = IsWord name × IsPosition to
HasWords (Remove name) = IsWord name
HasWords (SetScript text) = IsPayload text

abbrev pub HasWordsOf : Command → Type 0
HasWordsOf (Edit change) = HasWords change
HasWordsOf (Ask query) = Unit {0}

-- a command that a stream can spell
pub record IsCommand (command : Command) : Type 0 where
  pub short : length (line command) ≤ 512
  pub words : HasWordsOf command

abbrev pub AreCommands : List Command → Type 0
AreCommands [] = Unit {0}
AreCommands (command ∷ rest) = IsCommand command × AreCommands rest

-- a command begins these bytes
pub record BeginsCommand (bytes : List ℕ) : Type 0 where
  pub command : Command
  pub more : List ℕ
  pub is : IsCommand command
  pub cut : bytes ≡ spelling command ++ more

-- something is left, and no command begins it
pub record IsBad (tail : List ℕ) : Type 0 where
  pub some : tail ≢ []
  pub none : BeginsCommand tail → ⊥
