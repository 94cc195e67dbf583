use Rattle.ldscript_tokens.proofs.Common.{drop, value_in, ◌<◌, ◌^◌, ◌≡◌}
use Rattle.ldscript_tokens.proofs.Digits.{more_digits}
use Rattle.ldscript_tokens.proofs.number.value_in.Given as goal

abbrev pub invariant-loop-digit : goal.invariant-loop-digit
invariant-loop-digit l = (value_in l.base l.digits ≡ more_digits l.base l.value (drop l.digit-index l.digits))
    × (l.value < 2 ^ 64)
