use Rattle.relink.proofs.Common.{arith, ◌∙◌}
use Rattle.relink.proofs.LazyTables.{from_places}
use Rattle.relink.proofs.lazy_tables.are_places.Goals as goal

pub returns : goal.returns
returns c = λ yes.
    from_places 0 c.args.keys.now (λ k low.
    c.loop-place.invariant k (omega (arith, low, c.loop-place-test.false)) ∙ (omega arith))
