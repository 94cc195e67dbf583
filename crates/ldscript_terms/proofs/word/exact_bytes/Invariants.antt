use Rattle.ldscript_terms.proofs.Common.{length}
use Rattle.ldscript_terms.proofs.Exact.{IsExactTo}
use Rattle.ldscript_terms.proofs.word.exact_bytes.Given as goal

abbrev pub invariant-loop-part : goal.invariant-loop-part
invariant-loop-part l = IsExactTo l.word l.bytes.items l.rest

abbrev pub decreases-loop-part : goal.decreases-loop-part
decreases-loop-part l = length l.rest
