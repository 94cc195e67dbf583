use Rattle.relink_driver.proofs.Common.{arith, refl, sym, ◌∙◌}
use Rattle.relink_driver.proofs.Outlines.{all_mapped, mapped_read, never, one_more, same_symbol_at, symbol_of, symbols_named}
use Rattle.relink_driver.proofs.outline.same_references.Goals as goal

pub loop-number-preserved : goal.loop-number-preserved
loop-number-preserved c =
    one_more (symbols_named c.args.a.now) (symbols_named c.args.b.now) c.loop-number.number c.loop-number.invariant
    (same_symbol_at c.args.a.now c.args.b.now c.loop-number.number _ c.loop-number-test.true c.if-a-b.false
    (c.is_same_index.ensures.0 c.if-not-is_same_index.false))

pub returns : goal.returns
returns c = (
  λ yes. all_mapped symbol_of c.args.a.now c.args.b.now c.loop-number.number c.if-a-b.false
      (omega (arith, c.loop-number-test.false, c.loop-number.auto.number-end)) c.loop-number.invariant,
  λ same. refl,
)

pub returns-then-not-is_same_index : goal.returns-then-not-is_same_index
returns-then-not-is_same_index c = (
  never,
  λ same. sym c.if-not-is_same_index.true ∙ c.is_same_index.ensures.1
      (mapped_read symbol_of c.args.a.now c.args.b.now c.loop-number.number _ c.loop-number-test.true c.if-a-b.false
      same),
)
