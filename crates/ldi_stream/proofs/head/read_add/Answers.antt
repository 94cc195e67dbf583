use Rattle.ldi_stream.proofs.StreamWords.{if_none}
use Rattle.ldi_stream.proofs.StreamHeads.{no_add_numbers}
use Rattle.ldi_stream.proofs.head.read_add.Goals as goal

pub returns-in_err-at-clause-none : goal.returns-in_err-at-clause-none
returns-in_err-at-clause-none c =
    if_none _ _ (no_add_numbers c.args.words.now _ _ c.in_ok-name.ensures.found.0 c.in_ok-name.ensures.found.1
    c.in_err-at.ensures.none)
