use Rattle.ldscript_tokens.proofs.Common.{line_feeds, take, ◌≡◌, ◌≤◌}
use Rattle.ldscript_tokens.proofs.lexer.line_feeds.Given as goal

abbrev pub invariant-loop-byte : goal.invariant-loop-byte
invariant-loop-byte l = (l.count ≡ line_feeds (take l.byte-index l.bytes)) × (l.count ≤ l.byte-index)
