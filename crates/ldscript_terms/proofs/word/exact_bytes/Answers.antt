use Rattle.ldscript_terms.proofs.Common.{subst, sym}
use Rattle.ldscript_terms.proofs.Exact.{IsExactTo, exact_start, exact_step, exact_stop, exact_end}
use Rattle.ldscript_terms.proofs.word.exact_bytes.Goals as goal

pub loop-part-init : goal.loop-part-init
loop-part-init c = subst (λ v. IsExactTo c.args.word.now v c.args.word.now) (sym c.new-bytes.ensures.items)
    (exact_start c.args.word.now)

pub loop-part-preserved : goal.loop-part-preserved
loop-part-preserved c =
    subst (λ v. IsExactTo c.args.word.now v c.in-Some.more.now) (sym c.in_ok-push-in-Some-byte.ensures.items)
    (exact_step c.args.word.now c.loop-part.bytes.items c.loop-part.rest.now c.in-Some.part c.in-Some.more.now
    c.in-Some-byte.b c.loop-part.invariant c.in-Some.ensures.value (sym c.in-Some-byte.ensures))

pub returns-in-None : goal.returns-in-None
returns-in-None c = exact_stop c.args.word.now c.loop-part.bytes.items c.loop-part.rest.now c.in-Some.part
    c.in-Some.more.now c.loop-part.invariant c.in-Some.ensures.value (sym c.in-None.ensures)

pub returns : goal.returns
returns c = exact_end c.args.word.now c.loop-part.bytes.items c.loop-part.rest.now c.loop-part.invariant
    c.in_default.ensures.value
