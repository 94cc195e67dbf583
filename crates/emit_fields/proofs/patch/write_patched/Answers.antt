use Rattle.emit_fields.proofs.Common.{AreInOrder, Bytes, Counts, ap, arith, cases_lt, drop, inl, inr, length, patch_end}
use Rattle.emit_fields.proofs.Common.{raised, refl, subst, sym, ℕ, ◌+◌, ◌-◌, ◌∙◌, ◌≡◌, ◌≤◌}
use Rattle.emit_fields.proofs.Patches.{turn_of, no_more}
use Rattle.emit_fields.proofs.Runs.{run_reads, raised_more}
use Rattle.emit_fields.proofs.patch.write_patched.Goals as goal

pub write_up_to-done-requires-clause-end : goal.write_up_to-done-requires-clause-end
write_up_to-done-requires-clause-end c =
    (turn_of c.args.bytes.now c.loop-patch.done
    (length c.args.bytes.now) c.loop-patch.patch-index c.args.patches.now c.patch-item.result c.loop-patch-test.true
    c.loop-patch.invariant.order c.patch-item.is).within

pub loop-patch-preserved : goal.loop-patch-preserved
loop-patch-preserved c =
    let t = turn_of c.args.bytes.now c.loop-patch.done
    (length c.args.bytes.now) c.loop-patch.patch-index c.args.patches.now c.patch-item.result c.loop-patch-test.true
    c.loop-patch.invariant.order c.patch-item.is in
    let w = c.write_up_to-done.ensures in
    let end : c.write_up_to-done.result ≡ patch_end c.patch-item.result = w.end in
    let above : c.loop-patch.done ≤ c.patch-item.result.offset = t.above in
    let within : patch_end c.patch-item.result ≤ length c.args.bytes.now = t.within in
    let P : ℕ → Type 0 = λ n. AreInOrder n (length c.args.bytes.now)
    (drop (c.loop-patch.patch-index + 1) c.args.patches.now) in
    let written : ℕ = patch_end c.patch-item.result - c.loop-patch.done in
    record {
      order = subst P (sym end) t.order;
      rest = λ i a. c.loop-patch.invariant.rest i (omega arith) ∙ t.rest i (omega arith);
      written = λ i a. elim (cases_lt i c.loop-patch.done) [
        | inl x ↦ w.before (c.args.at + i) (omega arith) ∙ c.loop-patch.invariant.written i x
        | inr x ↦ elim (cases_lt i c.patch-item.result.offset) [
          | inl y ↦ w.own i x y ∙ sym (c.loop-patch.invariant.rest i x ∙ t.own i y)
          | inr y ↦ w.field i y (omega arith) ∙ sym (c.loop-patch.invariant.rest i x ∙ t.covered i y (omega arith))
        ]
      ];
      before = λ o a. w.before o (omega arith) ∙ c.loop-patch.invariant.before o a;
      after = λ o a. w.after o (omega arith) ∙ c.loop-patch.invariant.after o a;
      len = w.len ∙ c.loop-patch.invariant.len;
      room = w.room ∙ c.loop-patch.invariant.room;
      within = omega arith;
      counted = λ n. (
          let sum : c.loop-patch.done + (written + n) ≡ c.write_up_to-done.result + n = omega arith in
          ap (λ (m : Counts). raised m Bytes n) w.counted
          ∙ raised_more c.loop-patch.meter written n (written + n) refl
          ∙ c.loop-patch.invariant.counted (written + n)
          ∙ ap (λ (k : ℕ). raised c.args.meter.now Bytes k) sum
          );
    }

pub returns-clause-written : goal.returns-clause-written
returns-clause-written c = λ i h. elim (cases_lt i c.loop-patch.done) [
  | inl x ↦ c.write.ensures.before (c.args.at + i) (omega arith) ∙ c.loop-patch.invariant.written i x
  | inr x ↦
      run_reads c.write.new.self.bytes c.args.bytes.now c.args.at c.loop-patch.done
      (length c.args.bytes.now) i c.write.ensures.written x h (omega arith)
      ∙ sym (c.loop-patch.invariant.rest i x
      ∙ no_more c.args.bytes.now c.args.patches.now c.loop-patch.patch-index i c.loop-patch-test.false)
]
