-- What a link of files comes to (GNU ld manual, "Invocation": the files of the command line, and `-T`). The script is
-- set and the objects are added in their order, each under its word, and then the project is linked once; the first of
-- these edits that is refused ends it. That order, the statuses and the texts are the product's own.
use Rattle.std.specs.Prelude.{◌≡◌, ℕ, suc, ◌+◌, List, [], ◌∷◌, ◌++◌, map, Option, Some, None, Result, Ok, Err, codes}
use Rattle.std.specs.Prelude.{slice_get, unwrap_or}
use Rattle.ldmodel.specs.Answers.{refused_line}
use Rattle.ldmodel.specs.Edits.{Change, Add, SetScript, After, Refusal}
use Rattle.ldmodel.specs.Link.{Link, link}
use Rattle.ldmodel.specs.Options.{LinkOptions}
use Rattle.ldmodel.specs.Project.{Project, empty_project}

-- an object file: its word on the command line, and its bytes
pub record ObjectFile : Type 0 where
  pub word : List ℕ
  pub bytes : List ℕ

-- the objects are added at the end, the first of these at a place
abbrev pub additions : ℕ → List ObjectFile → List Change
additions at [] = []
additions at (file ∷ rest) = Add file.word at file.bytes ∷ additions (at + 1) rest

-- the edits of a link of files
abbrev pub link_edits : (script : List ℕ) → List ObjectFile → List Change
link_edits script objects = SetScript script ∷ additions 0 objects

-- an edit that is refused: its place among all, from 0, and why. The script's place is 0, that of object number i,
-- from 1, is i
pub record RefusedEdit : Type 0 where
  pub place : ℕ
  pub why : Refusal

-- edits one after the other, the first of these at a place among all: the project that they lead to, or the first that
-- is refused
pub data Course : ℕ → Project → List Change → Result Project RefusedEdit → Type 0 where
  ended : {n : ℕ} {project : Project} → Course n project [] (Ok project)
  refused : {n : ℕ} {project : Project} {change : Change} {changes : List Change} {why : Refusal}
      → After project change (Err why) → Course n project (change ∷ changes) (Err (record { place = n; why = why }))
  accepted : {n : ℕ} {project next : Project} {change : Change} {changes : List Change}
      {result : Result Project RefusedEdit} → After project change (Ok next)
      → Course (suc n) next changes result → Course n project (change ∷ changes) result

-- what a link of files answers
pub data LinkAnswer : Type 0 where
  Linked : (result : Link) → LinkAnswer
  RefusedAt : (edit : RefusedEdit) → LinkAnswer
  NoMemory : LinkAnswer

abbrev pub Linking : LinkOptions → (script : List ℕ) → List ObjectFile → Result Project RefusedEdit → Type 0
Linking options script objects result = Course 0 (empty_project options) (link_edits script objects) result

-- the link of the project that the edits lead to, or the first refused edit. Out of memory says nothing of the files;
-- that memory is short where this is answered is said by the contracts of the code
abbrev pub LinkAnswers : LinkOptions → (script : List ℕ) → List ObjectFile → LinkAnswer → Type 0
LinkAnswers options script objects (Linked result) =
    (project : Project) × Linking options script objects (Ok project) × (result ≡ link project)
LinkAnswers options script objects (RefusedAt edit) = Linking options script objects (Err edit)
LinkAnswers options script objects NoMemory = Unit {0}

-- the status that `ldi link` ends with, where all files can be read and written: 0 after a good link, 1 after one with
-- faults, 2 where an edit is refused, 4 out of memory
abbrev pub link_status : LinkAnswer → ℕ
link_status (Linked result) = result.status
link_status (RefusedAt edit) = 2
link_status NoMemory = 4

-- the file that an edit is of: `script`, or the word of the object
abbrev pub file_word : List ObjectFile → ℕ → List ℕ
file_word objects place =
    unwrap_or (slice_get (codes "script" ∷ map (λ (file : ObjectFile). file.word) objects) place) []

-- what stands on standard error then: the fault lines of the link; or `NAME: refused N M`; or `memory`
abbrev pub link_message : List ObjectFile → LinkAnswer → List ℕ
link_message objects (Linked result) = result.faults
link_message objects (RefusedAt edit) = file_word objects edit.place ++ codes ": " ++ refused_line edit.why
link_message objects NoMemory = codes "memory" ++ 10 ∷ []
