-- What is known of the words of a list and a file.
use Rattle.std.specs.Prelude.{◌≡◌, ℕ, List, Option, Some, Bool, slice_get}
use Rattle.gather.specs.Words.{WordAt, shown_words, takes_by, takes_from}
use Rattle.gather.specs.declared.word.WordAt as code

-- where a place has an answer, it says whether the word at that place takes sections from the file
abbrev pub AreKnown : List ℕ → List code.WordAt → List (Option Bool) → Type 0
AreKnown file words known =
    (k : ℕ) (w : WordAt) (b : Bool) → slice_get (shown_words words) k ≡ Some w → slice_get known k ≡ Some (Some b)
    → b ≡ takes_from file w

-- this answer says whether the word at a place takes sections from the file, and whether it takes those of this name
abbrev pub SaysFrom : (file : List ℕ) → List code.WordAt → (place : ℕ) → Bool → Type 0
SaysFrom file words place answer =
    (w : WordAt) → slice_get (shown_words words) place ≡ Some w → answer ≡ takes_from file w

abbrev pub SaysTaken : (file section : List ℕ) → List code.WordAt → (place : ℕ) → Bool → Type 0
SaysTaken file section words place answer =
    (w : WordAt) → slice_get (shown_words words) place ≡ Some w → answer ≡ takes_by file section w
