-- Each word after a space.
use Rattle.emit_text.proofs.Common.{[], at_drop_all, at_drop_more, spaced_words, ◌∷◌}
use Rattle.emit_text.proofs.Appending.{written_step, written_both, written_end}
use Rattle.emit_text.proofs.line.put_others.Goals as goal

pub loop-word-preserved : goal.loop-word-preserved
loop-word-preserved c =
    written_step _ _ _ _ _ _
    (written_both _ _ _ (32 ∷ []) _ c.in_ok-push.ensures.items c.in_ok-put_word.ensures)
    (at_drop_more spaced_words c.args.words.now c.loop-word.word-index _ c.loop-word-test.true) c.loop-word.invariant

pub returns : goal.returns
returns c =
    written_end _ _ _ (at_drop_all spaced_words c.args.words.now c.loop-word.word-index c.loop-word-test.false)
    c.loop-word.invariant
