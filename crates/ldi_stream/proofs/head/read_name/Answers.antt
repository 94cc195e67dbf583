use Rattle.ldi_stream.proofs.Common.{false≢true}
use Rattle.ldi_stream.proofs.StreamWords.{if_none}
use Rattle.ldi_stream.proofs.StreamHeads.{one_word, bad_name}
use Rattle.ldi_stream.proofs.head.read_name.Goals as goal

pub returns-in_err-name-clause-none : goal.returns-in_err-name-clause-none
returns-in_err-name-clause-none c = if_none _ _ (one_word c.args.words.now c.in_err-name.ensures)

pub returns-else-is_word-clause-none : goal.returns-else-is_word-clause-none
returns-else-is_word-clause-none c =
    bad_name c.args.words.now _ _ c.in_ok-name.ensures.0 c.in_ok-name.ensures.1
    (λ w. false≢true (c.if-is_word.ensures.1 w))
