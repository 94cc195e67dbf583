use Rattle.symres_table.proofs.Common.{arith, length-take-le, sym}
use Rattle.symres_table.proofs.hints.hash_of.Goals as goal

pub slice_bounds-add_bytes-end : goal.slice_bounds-add_bytes-end
slice_bounds-add_bytes-end c = sym (length-take-le 32 c.args.name.now (omega (arith, c.if-length-lt-LONG.false)))
