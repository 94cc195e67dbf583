-- The common ones of the symbols so far.
use Rattle.gather.proofs.Commons.{CommonsBefore}
use Rattle.gather.proofs.blocks.common_symbols.Given as goal

abbrev pub invariant-loop-number : goal.invariant-loop-number
invariant-loop-number l = CommonsBefore l.object.symbols l.number l.start l.end
