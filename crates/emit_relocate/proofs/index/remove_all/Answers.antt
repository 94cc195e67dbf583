use Rattle.emit_relocate.proofs.Common.{ap, arith, cleared_one, ◌∙◌}
use Rattle.emit_relocate.proofs.Places.{cleared_more}
use Rattle.emit_relocate.proofs.index.remove_all.Goals as goal

pub loop-spot-preserved : goal.loop-spot-preserved
loop-spot-preserved c = (
  λ t k.
      c.remove_one.ensures.slots t k
      ∙ (ap (cleared_one t k _) (c.loop-spot.invariant.0 t k)
      ∙ cleared_more c.args.spots.now c.loop-spot.spot-index t k _ _ c.loop-spot-test.true),
  λ t. c.remove_one.ensures.lengths t ∙ c.loop-spot.invariant.1 t,
  λ t. omega (arith, c.loop-spot.invariant.2 t, c.remove_one.ensures.rooms t),
)
