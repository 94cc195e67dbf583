use Rattle.ldscript_tokens.proofs.Common.{count_by, map, take, token_of, ◌≡◌, ◌≤◌}
use Rattle.ldscript_tokens.specs.Limits.{is_open_brace}
use Rattle.ldscript_tokens.proofs.limits.open_braces.Given as goal

abbrev pub invariant-loop-token : goal.invariant-loop-token
invariant-loop-token l = (l.count ≡ count_by is_open_brace (map (token_of l.text) (take l.token-index l.tokens)))
    × (l.count ≤ l.token-index)
