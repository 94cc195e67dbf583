use Rattle.ldscript_tokens.proofs.Common.{drop, option_map, ◌+◌, ◌≡◌}
use Rattle.ldscript_tokens.specs.Tokens.{star_slash}
use Rattle.ldscript_tokens.proofs.front.star_slash.Given as goal

abbrev pub invariant-loop-i : goal.invariant-loop-i
invariant-loop-i l = star_slash l.text ≡ option_map (λ n. n + l.i) (star_slash (drop l.i l.text))
