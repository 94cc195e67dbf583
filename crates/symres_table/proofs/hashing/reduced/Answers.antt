use Rattle.symres_table.proofs.Common.{arith, reduced, refl}
use Rattle.symres_table.proofs.hashing.reduced.Goals as goal

pub overflow_add-once : goal.overflow_add-once
overflow_add-once c = omega (arith, c.ranges.number.fits)

pub overflow_add-result : goal.overflow_add-result
overflow_add-result c = omega (arith, c.ranges.number.fits)

pub overflow_cast-result : goal.overflow_cast-result
overflow_cast-result c = omega (arith, c.ranges.number.fits)

pub returns : goal.returns
unfolding reduced
returns c = refl
