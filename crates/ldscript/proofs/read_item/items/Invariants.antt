use Rattle.ldscript.proofs.Common.{CloseBrace, item_statement, length, mark}
use Rattle.ldscript.proofs.Lists.{SoFar}
use Rattle.ldscript.proofs.read_item.items.Given as goal

abbrev pub decreases-reading : goal.decreases-reading
decreases-reading l = length l.rest

abbrev pub invariant-reading : goal.invariant-reading
invariant-reading l = SoFar (mark CloseBrace) item_statement l.fn.tokens l.items l.rest
