-- The words of a script by the files that their statements are for.
use Rattle.std.specs.Prelude.{◌≡◌, ℕ, List, [], ◌++◌, Option, bytes_eq, if◌then◌else◌}
use Rattle.std.specs.BTreeMap.{get_by}
use Rattle.std.specs.Borrow.{Bor}
use Rattle.std.specs.Cmp.Lexicographic.{slice_cmp}
use Rattle.std.specs.List.{filter}
use Rattle.std.specs.Option.{option_map_or}
use Rattle.std.specs.Ordering.{nat_cmp}
use Rattle.gather.specs.Words.{WordAt, first_taker, is_for, is_for_more, is_named, is_wild, lesser, shown_words}
use Rattle.gather.specs.Words.{words_from}
use Rattle.gather.specs.WordTables.{AddsWords, shown_listed}
use Rattle.ldscript.specs.statements.Numbering.{InputStatementAt}
use Rattle.gather.specs.declared.file_tables.FileTables.{FileTables}
use Rattle.gather.specs.declared.word_table.WordTable.{WordTable}

-- the words of statements for a file alone, if there are any
abbrev pub own_table : FileTables → List ℕ → Option WordTable
own_table t file = get_by (λ (k : Bor (List ℕ)). slice_cmp nat_cmp file k.now) t.own

-- those under a name, and those in the list of others
abbrev pub own_listed : FileTables → (file name : List ℕ) → List WordAt
own_listed t file name = option_map_or (λ (own : WordTable). shown_listed own name) (own_table t file) []

abbrev pub own_wild : FileTables → (file : List ℕ) → List WordAt
own_wild t file = option_map_or (λ (own : WordTable). shown_words own.wild.items) (own_table t file) []

-- these words come after those that are there for a file
pub record AddsOwn (old new : FileTables) (file : List ℕ) (ws : List WordAt) : Type 0 where
  pub named : (q name : List ℕ) → own_listed new q name
      ≡ (if bytes_eq file q then own_listed old q name ++ filter (is_named name) ws else own_listed old q name)
  pub wild : (q : List ℕ) → own_wild new q
      ≡ (if bytes_eq file q then own_wild old q ++ filter is_wild ws else own_wild old q)

-- these words come after those that are there
pub record AddsOf (old new : FileTables) (ws : List WordAt) : Type 0 where
  pub named : (file name : List ℕ) → own_listed new file name
      ≡ own_listed old file name ++ filter (is_named name) (filter (is_for file) ws)
  pub wild : (file : List ℕ) → own_wild new file ≡ own_wild old file ++ filter is_wild (filter (is_for file) ws)
  pub others : AddsWords old.others new.others (filter is_for_more ws)

-- they have the words of these statements
pub record AreTablesOf (t : FileTables) (statements : List InputStatementAt) : Type 0 where
  pub named : (file name : List ℕ) → own_listed t file name
      ≡ filter (is_named name) (filter (is_for file) (words_from 0 statements))
  pub wild : (file : List ℕ) → own_wild t file ≡ filter is_wild (filter (is_for file) (words_from 0 statements))
  pub others_named : (name : List ℕ) → shown_listed t.others name
      ≡ filter (is_named name) (filter is_for_more (words_from 0 statements))
  pub others_wild : shown_words t.others.wild.items
      ≡ filter is_wild (filter is_for_more (words_from 0 statements))

-- the number of the first statement that takes the section by one of their words
abbrev pub first_in : FileTables → (file section : List ℕ) → Option ℕ
first_in t file section =
    lesser
    (lesser (first_taker file section (own_listed t file section)) (first_taker file section (own_wild t file)))
    (lesser (first_taker file section (shown_listed t.others section))
    (first_taker file section (shown_words t.others.wild.items)))
