use Rattle.gather.proofs.Common.{NamedSymbol, ap, arith, length, length-map, sym, ◌<◌, ◌∙◌}
use Rattle.gather.proofs.Commons.{first_common, next_common, not_common}
use Rattle.gather.proofs.Owning.{is_common_at}
use Rattle.gather.proofs.blocks.common_symbols.Goals as goal
use Rattle.gather.proofs.blocks.common_symbols.Goals.{else-end-eq0, else-is_common, then-end-eq0, then-is_common}

pub loop-number-preserved : goal.loop-number-preserved
loop-number-preserved c =
    let ss = c.args.object.now.symbols in
    let n = c.loop-number.number in
    let low : n < length ss =
    omega (
      arith,
      c.loop-number-test.true,
      ap length c.symbols-symbols.ensures.value,
      length-map ss (λ (s : NamedSymbol). s.symbol),
    ) in
    elim c.if-is_common.branch [
      | then-is_common w ↦
          elim w.if-end-eq0.branch [
            | then-end-eq0 v ↦
                rw (w.end-is, w.start-is, v.start-is)
                (first_common ss n c.loop-number.start c.loop-number.end c.loop-number.invariant
                (omega (arith, v.if-end-eq0.true)))
            | else-end-eq0 v ↦
                rw (w.end-is, w.start-is, v.start-is)
                (next_common ss n c.loop-number.start c.loop-number.end c.loop-number.invariant)
          ]
      | else-is_common w ↦
          rw (w.end-is, w.start-is)
          (not_common ss n c.loop-number.start c.loop-number.end c.loop-number.invariant
          (λ d. is_common_at c.args.object.now c.symbols-symbols.result.now n _ d c.symbols-symbols.ensures.value low
          ∙ (sym c.is_common.ensures ∙ w.if-is_common.false)))
    ]
