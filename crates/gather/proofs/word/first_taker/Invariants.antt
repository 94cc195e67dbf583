-- No word before takes the section.
use Rattle.gather.proofs.Common.{drop, first_taker, shown_words, ◌≡◌}
use Rattle.gather.specs.Known.{AreKnown}
use Rattle.gather.proofs.word.first_taker.Given as goal

abbrev pub invariant-loop-place : goal.invariant-loop-place
invariant-loop-place l = record {
  taker : first_taker l.file l.section (shown_words (drop l.place l.words))
      ≡ first_taker l.file l.section (shown_words l.words);
  known : AreKnown l.file l.words l.known;
}
