use Rattle.ldi_stream.proofs.StreamWords.{if_none}
use Rattle.ldi_stream.proofs.StreamHeads.{one_number, bad_place, bad_length}
use Rattle.ldi_stream.proofs.head.read_numbers.Goals as goal

pub returns-in_err-place-clause-none : goal.returns-in_err-place-clause-none
returns-in_err-place-clause-none c = if_none _ _ (one_number c.args.words.now c.in_err-place.ensures)

pub returns-in_err-at-clause-none : goal.returns-in_err-at-clause-none
returns-in_err-at-clause-none c =
    if_none _ _ (bad_place c.args.words.now _ _ c.in_ok-place.ensures.0 c.in_ok-place.ensures.1
    c.in_err-at.ensures.none)

pub returns-in_err-count-clause-none : goal.returns-in_err-count-clause-none
returns-in_err-count-clause-none c =
    if_none _ _ (bad_length c.args.words.now _ _ c.in_ok-place.ensures.0 c.in_ok-place.ensures.1
    c.in_err-count.ensures.none)
