use Rattle.ldi_stream.proofs.StreamWords.{if_none}
use Rattle.ldi_stream.proofs.StreamHeads.{no_move_place}
use Rattle.ldi_stream.proofs.head.read_move.Goals as goal

pub returns-in_err-to-clause-none : goal.returns-in_err-to-clause-none
returns-in_err-to-clause-none c =
    if_none _ _ (no_move_place c.args.words.now _ _ c.in_ok-name.ensures.found.0 c.in_ok-name.ensures.found.1
    c.in_err-to.ensures.none)
