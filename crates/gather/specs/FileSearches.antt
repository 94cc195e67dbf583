-- A search for the statements that take the sections of one file.
use Rattle.std.specs.Prelude.{◌≡◌, ℕ, List, map, Option}
use Rattle.elfobj.specs.Sections.{LinkedSection}
use Rattle.gather.specs.FileTables.{first_in}
use Rattle.gather.specs.Known.{AreKnown}
use Rattle.gather.specs.declared.file_search.FileSearch.{FileSearch}
use Rattle.gather.specs.declared.file_tables.FileTables.{FileTables}

-- what it knows is so
abbrev pub IsSearch : FileSearch → Type 0
IsSearch s = AreKnown s.file.now s.words.now.others.wild.items s.known.items

-- it is for the same words and the same file, and may know more
pub record GoesOn (old new : FileSearch) : Type 0 where
  pub words : new.words.now ≡ old.words.now
  pub file : new.file.now ≡ old.file.now
  pub known : IsSearch new

-- of each section the number of the first statement that takes it by one of these words
abbrev pub matches_by : FileTables → (file : List ℕ) → List LinkedSection → List (Option ℕ)
matches_by t file sections = map (first_in t file) (map (λ (s : LinkedSection). s.name) sections)
