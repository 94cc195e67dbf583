use Rattle.ldscript.proofs.Inputs.{word_excluding, word_bare}
use Rattle.ldscript.proofs.read_input.word.Goals as goal

pub returns-then-may_exclude : goal.returns-then-may_exclude
returns-then-may_exclude c = word_excluding c.args.may_exclude _ (λ x. x.0)
    (λ x. x.1) _ c.if-may_exclude.true c.excluding_word.ensures

pub returns-else-may_exclude : goal.returns-else-may_exclude
returns-else-may_exclude c = word_bare c.args.may_exclude _ (λ x. x.0)
    (λ x. x.1) _ c.if-may_exclude.false c.bare_word.ensures
