use Rattle.ldscript.proofs.Common.{CloseParenthesis, mark, word_part}
use Rattle.ldscript.proofs.Each.{each_so_far_closed, each_so_far_member, each_so_far_stuck}
use Rattle.ldscript.proofs.Inputs.{word_single, words_listed}
use Rattle.ldscript.proofs.read_input.words.Goals as goal

pub returns-in-Some : goal.returns-in-Some
returns-in-Some c = let m = rw c.copy.ensures at c.in-Some.ensures in
    each_so_far_closed (mark CloseParenthesis) (word_part c.args.may_exclude) _ _ _ _ c.reading.invariant m.0 m.1

pub returns-in_default-2 : goal.returns-in_default-2
returns-in_default-2 c =
    let n = (rw c.in_default-2.is at c.in_ok-word.ensures) in
    each_so_far_stuck (λ ts. Unit {0}) (mark CloseParenthesis) (word_part c.args.may_exclude)
    (words_listed c.args.may_exclude) _ _ _ c.reading.invariant (rw c.copy.ensures at c.in_default.ensures)
    (λ y more d st. n y more d)

pub reading-preserved : goal.reading-preserved
reading-preserved c = rw c.in_ok-push.ensures
    (each_so_far_member (λ ts. Unit {0}) (mark CloseParenthesis) (word_part c.args.may_exclude)
    (words_listed c.args.may_exclude) _ _ _ _ _ c.reading.invariant (rw c.in-Some-2.is at c.in_ok-word.ensures).spells
    (λ y more d st. word_single c.args.may_exclude _ _ _ _ _ d (rw c.in-Some-2.is at c.in_ok-word.ensures).spells)
    (rw c.in-Some-2.is at c.in_ok-word.ensures).shorter)
