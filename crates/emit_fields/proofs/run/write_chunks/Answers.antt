use Rattle.emit_fields.proofs.Common.{Bytes, Counts, ap, arith, cases_lt, div-add-mod, inl, inr, min, mod-lt, raised}
use Rattle.emit_fields.proofs.Common.{refl, ℕ, ◌%◌, ◌*◌, ◌+◌, ◌-◌, ◌<◌, ◌∙◌, ◌≡◌, ◌≤◌}
use Rattle.std.proofs.lemmas.List.{get_or-take, length-take-le}
use Rattle.emit_fields.proofs.Runs.{raised_more, run_byte}
use Rattle.emit_fields.proofs.run.write_chunks.Goals as goal

pub loop-k-preserved : goal.loop-k-preserved
loop-k-preserved c =
    let w = c.write.ensures in
    let whole = div-add-mod c.args.n 840 in
    let long : 840 ≤ min c.args.n 840 = omega (arith, c.loop-k.auto.k-end, c.loop-k-test.true) in
    record {
      written = λ i a. elim (cases_lt i (840 * c.loop-k.k)) [
        | inl x ↦ w.before (c.args.at + i) (omega arith) ∙ c.loop-k.invariant.written i x
        | inr x ↦
            run_byte c.write.new.self.bytes c.chunk_of-chunk.result c.args.pattern.now c.args.at (840 * c.loop-k.k)
            c.loop-k.k 840 i refl c.requires.some c.requires.most
            (λ j l. w.written j (omega (arith, c.chunk_of-chunk.ensures.len)))
            (λ j l. c.chunk_of-chunk.ensures.filled j (omega arith)) x (omega arith)
      ];
      before = λ o a. w.before o (omega arith) ∙ c.loop-k.invariant.before o a;
      after = λ o a. w.after o (omega (arith, c.chunk_of-chunk.ensures.len)) ∙ c.loop-k.invariant.after o (omega arith);
      len = w.len ∙ c.loop-k.invariant.len;
      room = w.room ∙ c.loop-k.invariant.room;
      counted = λ n. (
          let sum : 840 * c.loop-k.k + (840 + n) ≡ 840 * (c.loop-k.k + 1) + n = omega arith in
          ap (λ (m : Counts). raised m Bytes n)
          (w.counted ∙ ap (λ (l : ℕ). raised c.loop-k.meter Bytes l) c.chunk_of-chunk.ensures.len)
          ∙ raised_more c.loop-k.meter 840 n (840 + n) refl
          ∙ c.loop-k.invariant.counted (840 + n)
          ∙ ap (λ (k : ℕ). raised c.args.meter.now Bytes k) sum
          );
    }

pub returns-clause-written : goal.returns-clause-written
returns-clause-written c =
    let whole = div-add-mod c.args.n 840 in
    let start : c.args.n - c.args.n % 840 ≡ 840 * c.loop-k.k = omega
    (arith, c.loop-k.auto.k-end, c.loop-k-test.false) in
    let rest : c.args.n % 840 < 840 = mod-lt c.args.n (omega arith) in
    λ i h. elim (cases_lt i (840 * c.loop-k.k)) [
      | inl x ↦ c.write-2.ensures.before (c.args.at + i) (omega arith) ∙ c.loop-k.invariant.written i x
      | inr x ↦
          let long =
          length-take-le (c.args.n % 840) c.chunk_of-chunk.result (omega (arith, c.chunk_of-chunk.ensures.len)) in
          run_byte c.write-2.new.self.bytes c.chunk_of-chunk.result c.args.pattern.now c.args.at
          (c.args.n - c.args.n % 840) c.loop-k.k (c.args.n % 840) i start c.requires.some c.requires.most
          (λ j l. c.write-2.ensures.written j (omega (arith, long))
          ∙ get_or-take (c.args.n % 840) c.chunk_of-chunk.result j 0 l)
          (λ j l. c.chunk_of-chunk.ensures.filled j (omega arith)) (omega arith) (omega arith)
    ]
