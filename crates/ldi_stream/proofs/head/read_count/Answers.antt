use Rattle.ldi_stream.proofs.Common.{arith, decimal_injective, sym, ◌∙◌}
use Rattle.ldi_stream.proofs.head.read_count.Goals as goal

pub returns-else-n-clause-none : goal.returns-else-n-clause-none
returns-else-n-clause-none c = λ n small e.
    let number = c.in_ok-n.ensures.found in
    let same = decimal_injective c.in_ok-n.n n number.0 (omega arith) (sym number.1 ∙ e) in
    absurd (omega (arith, same))
