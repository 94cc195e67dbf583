use Rattle.elfobj.proofs.Common.{ap, arith, cases_lt, false, is_refused_for, length-set, refl, relocation_entry_at}
use Rattle.elfobj.proofs.Common.{subst, sym, ⊎_elim, ◌*◌, ◌+◌, ◌-◌, ◌∙◌, ◌≡◌}
use Rattle.elfobj.proofs.EntryTests.{none_refused, passed_more}
use Rattle.elfobj.proofs.RelocationReads.{found_entry}
use Rattle.elfobj.proofs.entry_test.is_table_refused.Goals as goal

pub returns-then-is_refused_for-clause-value : goal.returns-then-is_refused_for-clause-value
returns-then-is_refused_for-clause-value c =
    let p = is_refused_for c.args.fault c.args.symbols c.args.table.now.section in
    let k = c.loop-at.at - c.args.first in
    let at : c.args.base + 24 * c.loop-at.at ≡ c.args.table.now.start + 24 * k = omega
    (arith, c.requires.start, c.loop-at.invariant.begun) in
    sym (found_entry p c.args.bytes.now c.args.table.now.start c.args.table.now.count k
    (omega (arith, c.loop-at-test.true, c.loop-at.invariant.begun))
    (ap (λ i. p (relocation_entry_at c.args.bytes.now i)) (sym at) ∙ ap p (sym c.read_relocation_entry-entry.ensures)
    ∙ sym c.is_refused_for.ensures ∙ c.if-is_refused_for.true))

pub loop-at-preserved : goal.loop-at-preserved
loop-at-preserved c =
    let passes = ap (is_refused_for c.args.fault c.args.symbols c.args.table.now.section)
    (sym c.read_relocation_entry-entry.ensures) ∙ sym c.is_refused_for.ensures ∙ c.if-is_refused_for.false in
    let now = passed_more c.args.fault c.args.bytes.now c.args.symbols c.args.table.now.section c.args.base c.loop-at.at
    c.step_over-next.new.past _
    (omega (arith, c.step_over-next.ensures.long, c.loop-at.invariant.long, c.loop-at-test.true, c.requires.end)) refl
    passes
    (c.step_over-next.ensures.kept c.args.fault c.args.bytes.now c.args.symbols c.args.table.now.section c.args.base
    c.loop-at.invariant.passed) in
    record {
      begun = omega (arith, c.loop-at.invariant.begun);
      long = length-set c.step_over-next.new.past c.loop-at.at (c.loop-at.at + 1) ∙ c.step_over-next.ensures.long
          ∙ c.loop-at.invariant.long;
      passed = now;
      none = λ j a b. ⊎_elim
          (λ l. c.loop-at.invariant.none j a l)
          (λ l. let e : j ≡ c.loop-at.at = omega arith in
          subst (λ i. is_refused_for c.args.fault c.args.symbols c.args.table.now.section
          (relocation_entry_at c.args.bytes.now (c.args.base + 24 * i)) ≡ false) (sym e) passes)
          (cases_lt j c.loop-at.at);
    }

pub returns-clause-value : goal.returns-clause-value
returns-clause-value c =
    let p = is_refused_for c.args.fault c.args.symbols c.args.table.now.section in
    sym (none_refused p c.args.bytes.now c.args.table.now.start c.args.table.now.count (λ k l.
    let at : c.args.table.now.start + 24 * k ≡ c.args.base + 24 * (c.args.first + k) = omega
    (arith, c.requires.start) in
    ap (λ i. p (relocation_entry_at c.args.bytes.now i)) at
    ∙ c.loop-at.invariant.none (c.args.first + k) (omega arith) (omega (arith, c.loop-at-test.false))))
