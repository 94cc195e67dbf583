use Rattle.ldscript_tokens.proofs.Common.{arith, false, inr, refl, true, ◌≡◌}
use Rattle.ldscript_tokens.proofs.Spellings.{accepted, past_limits}
use Rattle.ldscript_tokens.proofs.lexer.tokens.Goals as goal

pub returns-then-are_within_limits-clause-tokens : goal.returns-then-are_within_limits-clause-tokens
returns-then-are_within_limits-clause-tokens c =
    let h = rw (c.deref.ensures.value, c.if-are_within_limits.true) at c.are_within_limits.ensures in
    accepted c.args.text.now c.in_ok-tokens.tokens.items (omega arith) c.in_ok-tokens.ensures.cut (h.0 refl)

pub returns-else-are_within_limits-clause-refused : goal.returns-else-are_within_limits-clause-refused
returns-else-are_within_limits-clause-refused c =
    let h = rw (c.deref.ensures.value, c.if-are_within_limits.false) at c.are_within_limits.ensures in
    inr (past_limits c.args.text.now c.in_ok-tokens.tokens.items c.in_ok-tokens.ensures.cut
    (λ w. let z : false ≡ true = h.1 w in cc))
