-- Which names a pattern matches (GNU ld manual, "Input Section Wildcard Patterns"; that `*` and `?` match `/` in
-- names of files too is this project's choice).
use Rattle.std.specs.Prelude.{◌≡◌, ℕ, Bool, true, false, ◌&&◌, ◌||◌, ◌==◌, List, [], ◌∷◌, ◌++◌}
use Rattle.ldscript_terms.specs.Parts.{Part, AnyRun, AnyByte, Byte, OneOf, is_in_any}

-- what a part is met by
abbrev pub Meets : Part → List ℕ → Type 0
Meets AnyRun bytes = Unit {0}
Meets AnyByte bytes = (byte : ℕ) × (bytes ≡ byte ∷ [])
Meets (Byte byte) bytes = bytes ≡ byte ∷ []
Meets (OneOf ranges) bytes = (byte : ℕ) × (is_in_any byte ranges ≡ true) × (bytes ≡ byte ∷ [])

-- the whole name splits into as many runs as the pattern has parts, and each part is met by its run
pub data Matches : List Part → List ℕ → Type 0 where
  nothing : Matches [] []
  part : {first : Part} {parts : List Part} {name : List ℕ} (bytes rest : List ℕ) → Meets first bytes
      → name ≡ bytes ++ rest → Matches parts rest → Matches (first ∷ parts) name

-- a test of some end of a name: of the whole name, of each shorter end, or of the empty one
abbrev pub passes_some_end : (List ℕ → Bool) → List ℕ → Bool
passes_some_end test [] = test []
passes_some_end test (byte ∷ rest) = test (byte ∷ rest) || passes_some_end test rest

-- a test of the first byte, and one of the bytes after it
abbrev pub passes_after_one : (ℕ → Bool) → (List ℕ → Bool) → List ℕ → Bool
passes_after_one first test [] = false
passes_after_one first test (byte ∷ rest) = first byte && test rest

-- a name that begins with what a part matches, of which the rest passes a test
abbrev pub passes_after : Part → (List ℕ → Bool) → List ℕ → Bool
passes_after AnyRun test name = passes_some_end test name
passes_after AnyByte test name = passes_after_one (λ b. true) test name
passes_after (Byte x) test name = passes_after_one (λ b. b == x) test name
passes_after (OneOf ranges) test name = passes_after_one (λ b. is_in_any b ranges) test name

-- `Matches` as a test, part by part from the left
unfoldable pub is_match : List Part → List ℕ → Bool
is_match [] [] = true
is_match [] (byte ∷ rest) = false
is_match (first ∷ parts) name = passes_after first (is_match parts) name
