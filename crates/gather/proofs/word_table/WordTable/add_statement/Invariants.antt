-- What is added, with what is still to be added, is all.
use Rattle.gather.proofs.Common.{List, drop, filter, is_named, is_wild, shown_listed, shown_words, words_of, ℕ, ◌++◌}
use Rattle.gather.proofs.Common.{◌≡◌}
use Rattle.gather.proofs.word_table.WordTable.add_statement.Given as goal

abbrev pub invariant-loop-word : goal.invariant-loop-word
invariant-loop-word l = record {
  named : (name : List ℕ) → shown_listed l.self name
      ++ filter (is_named name) (words_of l.statement.0 l.input (drop l.word-index l.word-items))
      ≡ shown_listed l.initial.self name ++ filter (is_named name) (words_of l.statement.0 l.input l.word-items);
  wild : shown_words l.self.wild.items
      ++ filter is_wild (words_of l.statement.0 l.input (drop l.word-index l.word-items))
      ≡ shown_words l.initial.self.wild.items ++ filter is_wild (words_of l.statement.0 l.input l.word-items);
}
