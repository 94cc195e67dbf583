use Rattle.ldi_stream.proofs.StreamWords.{if_none}
use Rattle.ldi_stream.proofs.StreamHeads.{no_replace_length}
use Rattle.ldi_stream.proofs.head.read_replace.Goals as goal

pub returns-in_err-count-clause-none : goal.returns-in_err-count-clause-none
returns-in_err-count-clause-none c =
    if_none _ _ (no_replace_length c.args.words.now _ _ c.in_ok-name.ensures.found.0 c.in_ok-name.ensures.found.1
    c.in_err-count.ensures.none)
