use Rattle.ldscript_tokens.proofs.Common.{arith, length, ◌<◌}
use Rattle.ldscript_tokens.proofs.Digits.{next_digit}
use Rattle.ldscript_tokens.proofs.number.value_in.Goals as goal

-- what is too large with the next digit stays too large
pub returns-in_default : goal.returns-in_default
returns-in_default c =
    let i = c.loop-digit.digit-index in
    let digits = c.args.digits.now in
    let inside : i < length digits = omega arith in
    λ small. c.in_default.ensures (omega
    (arith, next_digit c.args.base c.loop-digit.value digits i c.requires inside, c.loop-digit.invariant.0, small))
