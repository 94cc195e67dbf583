use Rattle.ldscript_terms.proofs.Reading.{empty_test, spelled_end}
use Rattle.ldscript_terms.proofs.word.is_spelled.Goals as goal

pub returns : goal.returns
returns c =
    let e = empty_test c.loop-more.rest.now c.is_empty.result c.is_empty.ensures in
    let s = spelled_end c.loop-more.rest.now c.in_default.ensures.value in
    (λ t. c.loop-more.invariant.0 (s.1 (e.0 t)), λ w. e.1 (s.0 (c.loop-more.invariant.1 w)))
