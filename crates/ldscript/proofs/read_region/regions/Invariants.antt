use Rattle.ldscript.proofs.Common.{CloseBrace, length, mark, region}
use Rattle.ldscript.proofs.Each.{EachSoFar}
use Rattle.ldscript.proofs.read_region.regions.Given as goal

abbrev pub decreases-reading : goal.decreases-reading
decreases-reading l = length l.rest

abbrev pub invariant-reading : goal.invariant-reading
invariant-reading l = EachSoFar (mark CloseBrace) region l.fn.tokens l.regions l.rest
