use Rattle.ldscript_terms.proofs.Common.{ap, arith, false≢true, length, refl, sym, ◌∙◌}
use Rattle.ldscript_terms.proofs.Stars.{passed_more, missed_empty, missed_byte, whole_at_end, missed_at_end}
use Rattle.ldscript_terms.proofs.PlainRuns.{front_differs}
use Rattle.ldscript_terms.proofs.matching.try_front.Goals as goal

pub returns-then-is_plain-clause-value : goal.returns-then-is_plain-clause-value
returns-then-is_plain-clause-value c = λ ps s.
    let run = c.plain_run-count in
    let plain = sym c.is_plain.ensures ∙ c.if-is_plain.true in
    front_differs c.args.word.now c.args.name.now run.result ps c.if-count-word.true plain
    (λ low. run.ensures.apart c.if-count-word.true low plain) (run.ensures.passed ps s)

pub returns-in_default-split-clause-value : goal.returns-in_default-split-clause-value
returns-in_default-split-clause-value c = λ ps s.
    let h = c.loop-part.invariant.passed ps s in
    let o = c.in-Some.ensures.value.only h.0 h.1 in
    missed_empty c.loop-part.rest.now c.in-Some.part ps h.0 o.0 c.args.name.now c.loop-part.left.now h.2 o.1
    c.if-is_any_run.ensures c.in_default-split.ensures

pub returns-then-not-is_met_by-clause-value : goal.returns-then-not-is_met_by-clause-value
returns-then-not-is_met_by-clause-value c = λ ps s.
    let h = c.loop-part.invariant.passed ps s in
    let o = c.in-Some.ensures.value.only h.0 h.1 in
    missed_byte c.loop-part.rest.now c.in-Some.part ps h.0 o.0 c.args.name.now c.loop-part.left.now c.in-Some-split.byte
    c.in-Some-split.others.now h.2 o.1
    c.if-is_any_run.ensures c.in-Some-split.ensures (λ m. false≢true (c.if-not-is_met_by.ensures.1 m))

pub loop-part-preserved : goal.loop-part-preserved
loop-part-preserved c = record {
  in_word = omega (arith, c.in-Some.ensures.within.1, c.loop-part.invariant.in_word);
  in_name = omega (arith, ap length c.in-Some-split.ensures, c.loop-part.invariant.in_name);
  passed = λ ps s.
      let h = c.loop-part.invariant.passed ps s in
      let o = c.in-Some.ensures.value.only h.0 h.1 in (
        o.0,
        o.2,
        passed_more c.loop-part.rest.now c.in-Some.part ps h.0 o.0 c.args.name.now c.loop-part.left.now
            c.in-Some-split.byte c.in-Some-split.others.now h.2 o.1
            c.if-is_any_run.ensures c.in-Some-split.ensures (c.if-not-is_met_by.ensures.0 refl),
      );
}

pub returns-in-None-clause-value : goal.returns-in-None-clause-value
returns-in-None-clause-value c = λ ps s.
    let h = c.loop-part.invariant.passed ps s in
    whole_at_end ps h.0 c.args.name.now c.loop-part.left.now h.2 (c.in_default.ensures.value h.0 h.1) c.in-None.ensures

pub returns-in-Some-split-2-clause-value : goal.returns-in-Some-split-2-clause-value
returns-in-Some-split-2-clause-value c = λ ps s.
    let h = c.loop-part.invariant.passed ps s in
    missed_at_end ps h.0 c.args.name.now c.loop-part.left.now c.in-Some-split-2.field-0.0
    c.in-Some-split-2.field-0.1.now h.2 (c.in_default.ensures.value h.0 h.1) c.in-Some-split-2.ensures
