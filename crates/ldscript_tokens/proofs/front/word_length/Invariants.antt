use Rattle.ldscript_tokens.proofs.Common.{drop, length, ◌+◌, ◌-◌, ◌≡◌, ◌≤◌}
use Rattle.ldscript_tokens.specs.Tokens.{word_length}
use Rattle.ldscript_tokens.proofs.front.word_length.Given as goal

abbrev pub invariant-loop-length : goal.invariant-loop-length
invariant-loop-length l = (word_length l.text ≡ l.length + word_length (drop l.length l.text))
    × (l.length ≤ length l.text)

abbrev pub decreases-loop-length : goal.decreases-loop-length
decreases-loop-length l = length l.text - l.length
