use Rattle.ldscript_terms.proofs.Common.{false≢true, refl}
use Rattle.ldscript_terms.proofs.Stars.{star_none, star_step, miss_step, miss_end}
use Rattle.ldscript_terms.proofs.PlainRuns.{star_at_end}
use Rattle.ldscript_terms.proofs.matching.matches_behind_star.Goals as goal

pub returns-then-is_at_end : goal.returns-then-is_at_end
returns-then-is_at_end c = λ ps s. (
  λ t. star_at_end c.loop-after.after.now c.loop-after.left.now (c.is_at_end.ensures c.if-is_at_end.true)
      (c.loop-after.invariant ps s),
  λ m. refl,
)

pub returns-in-Whole : goal.returns-in-Whole
returns-in-Whole c = λ ps s.
    let h = c.loop-after.invariant ps s in
    (λ t. h.2.0 (star_none h.0 c.loop-after.left.now (c.in-Whole.ensures.value h.0 h.1)), λ m. refl)

pub loop-after-preserved-in-Star : goal.loop-after-preserved-in-Star
loop-after-preserved-in-Star c = λ ps s.
    let h = c.loop-after.invariant ps s in
    let k = c.in-Star.ensures.value h.0 h.1 in
    (k.0, k.1, star_step h.0 k.0 c.loop-after.left.now c.in-Star.behind.now k.2 h.2)

pub returns-in-None : goal.returns-in-None
returns-in-None c = λ ps s.
    let h = c.loop-after.invariant ps s in (
      λ f. absurd (false≢true f),
      λ a. absurd
          (miss_end h.0 c.loop-after.left.now (c.in-Missed.ensures.value h.0 h.1) c.in-None.ensures h.2 a),
    )

pub loop-after-preserved : goal.loop-after-preserved
loop-after-preserved c = λ ps s.
    let h = c.loop-after.invariant ps s in (
      h.0,
      h.1,
      miss_step h.0 c.loop-after.left.now c.in-Some.field-0-0 c.in-Some.others.now
          (c.in-Missed.ensures.value h.0 h.1) c.in-Some.ensures h.2,
    )
