use Rattle.ldscript_statements.proofs.Common.{take, ◌≡◌}
use Rattle.ldscript_statements.proofs.input.are_same_patterns.Given as goal

abbrev pub invariant-loop-number : goal.invariant-loop-number
invariant-loop-number l = take l.number l.one ≡ take l.number l.other
