use Rattle.ldscript_tokens.proofs.Common.{All, IsInText, IsShallow, length, lexeme_of, line_at, map, ◌+◌, ◌-◌, ◌≡◌, ◌≤◌}
use Rattle.ldscript_tokens.proofs.Cut.{IsCutTo}
use Rattle.ldscript_tokens.proofs.lexer.cut.Given as goal

abbrev pub invariant-loop-tokens : goal.invariant-loop-tokens
invariant-loop-tokens l = record {
  cut : IsCutTo l.text (map (lexeme_of l.text) l.tokens.items) l.at l.state;
  many : length l.tokens.items ≤ l.at;
  within : l.at ≤ length l.text;
  places : All (IsInText (length l.text)) l.tokens.items;
  shallow : IsShallow l.at l.state;
  lines : l.line ≡ line_at l.text l.at;
  few : l.line ≤ 1 + l.at;
}

abbrev pub decreases-loop-tokens : goal.decreases-loop-tokens
decreases-loop-tokens l = length l.text - l.at
