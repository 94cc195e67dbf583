use Rattle.ldi_stream.proofs.Common.{arith}
use Rattle.ldi_stream.proofs.StreamWords.{if_none}
use Rattle.ldi_stream.proofs.StreamHeads.{no_words, no_edit, query_says, edit_says}
use Rattle.ldi_stream.proofs.head.read_head.Goals as goal

pub returns-in_err-query-in-None-clause-none : goal.returns-in_err-query-in-None-clause-none
returns-in_err-query-in-None-clause-none c =
    if_none _ _ (no_words c.args.line.now c.in-None.ensures c.in_err-query-in-None.ensures.none)

pub returns-in_err-edit-in-Some-clause-none : goal.returns-in_err-edit-in-Some-clause-none
returns-in_err-edit-in-Some-clause-none c =
    if_none _ _ (no_edit c.args.line.now _ _ c.in-Some.ensures.0 c.in-Some.ensures.1 c.in_err-edit-in-Some.ensures.none)

pub returns-in_ok-query-in-None-clause-found : goal.returns-in_ok-query-in-None-clause-found
returns-in_ok-query-in-None-clause-found c =
    query_says c.args.line.now _ (omega arith) c.in_ok-query-in-None.ensures.found

pub returns-in_ok-edit-in-Some-clause-found : goal.returns-in_ok-edit-in-Some-clause-found
returns-in_ok-edit-in-Some-clause-found c =
    edit_says c.args.line.now _ _ _ (omega arith) c.in-Some.ensures.0 c.in_ok-edit-in-Some.ensures.found
