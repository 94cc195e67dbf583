use Rattle.ldscript_tokens.proofs.Common.{All, HasShortSpelling, take, token_of}
use Rattle.ldscript_tokens.proofs.limits.have_short_spellings.Given as goal

abbrev pub invariant-loop-token : goal.invariant-loop-token
invariant-loop-token l = All (λ t. HasShortSpelling (token_of l.text t)) (take l.token-index l.tokens)
