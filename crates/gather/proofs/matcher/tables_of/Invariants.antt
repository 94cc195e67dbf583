-- What is added, with what is still to be added, is all.
use Rattle.gather.proofs.Common.{List, drop, filter, is_for, is_for_more, is_named, is_wild, own_listed, own_wild}
use Rattle.gather.proofs.Common.{shown_listed, shown_words, words_from, ℕ, ◌++◌, ◌≡◌}
use Rattle.ldscript.specs.statements.Numbered.{shown_inputs}
use Rattle.gather.proofs.matcher.tables_of.Given as goal

abbrev pub invariant-loop-place : goal.invariant-loop-place
invariant-loop-place l = record {
  named : (file name : List ℕ) → own_listed l.tables file name
      ++ filter (is_named name) (filter (is_for file) (words_from l.place (shown_inputs (drop l.place l.statements))))
      ≡ filter (is_named name) (filter (is_for file) (words_from 0 (shown_inputs l.statements)));
  wild : (file : List ℕ) → own_wild l.tables file
      ++ filter is_wild (filter (is_for file) (words_from l.place (shown_inputs (drop l.place l.statements))))
      ≡ filter is_wild (filter (is_for file) (words_from 0 (shown_inputs l.statements)));
  others_named : (name : List ℕ) → shown_listed l.tables.others name
      ++ filter (is_named name) (filter is_for_more (words_from l.place (shown_inputs (drop l.place l.statements))))
      ≡ filter (is_named name) (filter is_for_more (words_from 0 (shown_inputs l.statements)));
  others_wild : shown_words l.tables.others.wild.items
      ++ filter is_wild (filter is_for_more (words_from l.place (shown_inputs (drop l.place l.statements))))
      ≡ filter is_wild (filter is_for_more (words_from 0 (shown_inputs l.statements)));
}
