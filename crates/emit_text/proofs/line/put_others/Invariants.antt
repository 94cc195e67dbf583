-- With the words still to come, the text is the whole one.
use Rattle.emit_text.proofs.Common.{drop, spaced_words, ◌++◌, ◌≡◌}
use Rattle.emit_text.proofs.line.put_others.Given as goal

abbrev pub invariant-loop-word : goal.invariant-loop-word
invariant-loop-word l = l.text.items ++ spaced_words (drop l.word-index l.words)
    ≡ l.initial.text.items ++ spaced_words l.words
