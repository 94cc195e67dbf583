use Rattle.ldscript_tokens.proofs.Common.{All, All-tail, IsInText, length, subst}
use Rattle.ldscript_tokens.proofs.cursor.Cursor.next.Goals as goal

pub invariant_of-result : goal.invariant_of-result
invariant_of-result c =
    let size = length c.self.inside.text.now in
    All-tail (IsInText size) c.in_ok-first.first c.in_ok-first.rest.now
    (subst (λ tokens. All (IsInText size) tokens) c.in_ok-first.ensures c.self.invariant)
