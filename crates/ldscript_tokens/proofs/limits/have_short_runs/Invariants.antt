use Rattle.ldscript_tokens.proofs.Common.{IsShallow, at_start, drop, map, moded, token_of, ◌≡◌, ◌≤◌}
use Rattle.ldscript_tokens.proofs.Runs.{runs_from}
use Rattle.ldscript_tokens.proofs.limits.have_short_runs.Given as goal

abbrev pub invariant-loop-token : goal.invariant-loop-token
invariant-loop-token l = record {
  runs : runs_from 0 (moded at_start (map (token_of l.text) l.tokens)) ≡ runs_from l.signs
      (moded l.state (map (token_of l.text) (drop l.token-index l.tokens)));
  few : l.signs ≤ 64;
  shallow : IsShallow l.token-index l.state;
}
