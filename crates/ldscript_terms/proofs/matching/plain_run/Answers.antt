use Rattle.ldscript_terms.proofs.Common.{arith, refl, sym, ◌∙◌}
use Rattle.ldscript_terms.proofs.PlainRuns.{past_more}
use Rattle.ldscript_terms.proofs.matching.plain_run.Goals as goal

pub loop-count-preserved : goal.loop-count-preserved
loop-count-preserved c = record {
  word = omega arith;
  name = omega arith;
  past = past_more c.args.word.now c.args.name.now c.loop-count.count _ c.loop-count-test.true c.if-count-name.true
      refl (sym c.if-byte-name.false) (sym c.is_plain.ensures ∙ c.if-not-is_plain.false) c.loop-count.invariant.past;
}
