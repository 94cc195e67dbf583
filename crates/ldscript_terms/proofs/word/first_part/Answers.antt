use Rattle.ldscript_terms.proofs.Common.{BeginsWith, part_of, subst, sym}
use Rattle.ldscript_terms.proofs.Reading.{begins_with, ends_unspelled, some_left}
use Rattle.ldscript_terms.proofs.word.first_part.Goals as goal

pub returns-clause-value : goal.returns-clause-value
returns-clause-value c =
    let word = c.args.word.now in
    let s = c.in_ok-spelled.spelled in
    subst (λ v. BeginsWith word (part_of word s.part) v) (sym c.word_from.ensures)
    (begins_with word (part_of word s.part) s.count (sym c.in_ok-spelled.ensures.value)
    (some_left word c.is_empty.result c.is_empty.ensures c.if-is_empty.false))

pub returns-in_err-spelled-clause-value : goal.returns-in_err-spelled-clause-value
returns-in_err-spelled-clause-value c =
    rw c.from_residual.ensures
    (ends_unspelled c.args.word.now (sym c.in_err-spelled.ensures.value)
    (some_left c.args.word.now c.is_empty.result c.is_empty.ensures c.if-is_empty.false))
