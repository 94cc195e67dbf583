-- What stands on standard error, by the words of the objects alone.
use Rattle.std.specs.Prelude.{◌≡◌, ℕ, List, [], ◌∷◌, codes, map, slice_get, unwrap_or}
use Rattle.ldmodel.specs.LinkCommand.{LinkAnswer, ObjectFile, link_message}

-- the file that an edit is of: `script`, or the word of the object
abbrev pub word_at : List (List ℕ) → ℕ → List ℕ
word_at words place = unwrap_or (slice_get (codes "script" ∷ words) place) []

-- the text is that of the definition, for object files with these words
abbrev pub IsMessage : List (List ℕ) → LinkAnswer → List ℕ → Type 0
IsMessage words answer text =
    (files : List ObjectFile) → map (λ (o : ObjectFile). o.word) files ≡ words → text ≡ link_message files answer
