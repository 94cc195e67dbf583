-- The words of a script under the names that they match.
use Rattle.std.specs.Prelude.{◌≡◌, ℕ, List, [], ◌++◌}
use Rattle.std.proofs.Common.{Vec, Global}
use Rattle.std.specs.BTreeMap.{get_by}
use Rattle.std.specs.Borrow.{Bor}
use Rattle.std.specs.Cmp.Lexicographic.{slice_cmp}
use Rattle.std.specs.List.{filter}
use Rattle.std.specs.Option.{option_map_or}
use Rattle.std.specs.Ordering.{nat_cmp}
use Rattle.gather.specs.Words.{WordAt, is_named, is_wild, shown_words}
use Rattle.gather.specs.declared.word.WordAt as code
use Rattle.gather.specs.declared.word_table.WordTable.{WordTable}

-- the words under a name
abbrev pub listed : WordTable → List ℕ → List code.WordAt
listed t name = option_map_or (λ (v : Vec code.WordAt Global). v.items)
    (get_by (λ (k : Bor (List ℕ)). slice_cmp nat_cmp name k.now) t.named) []

abbrev pub shown_listed : WordTable → List ℕ → List WordAt
shown_listed t name = shown_words (listed t name)

-- these words come after those that are there
pub record AddsWords (old new : WordTable) (ws : List WordAt) : Type 0 where
  pub named : (name : List ℕ) → shown_listed new name ≡ shown_listed old name ++ filter (is_named name) ws
  pub wild : shown_words new.wild.items ≡ shown_words old.wild.items ++ filter is_wild ws
