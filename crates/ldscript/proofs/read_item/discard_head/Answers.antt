use Rattle.ldscript.proofs.Common.{Colon, Discard, OpenBrace, mark, token, ◌▸◌}
use Rattle.ldscript.proofs.Singles.{token_fixed, mark_fixed, behind}
use Rattle.ldscript.proofs.Reading.{follows_behind}
use Rattle.ldscript.proofs.read_item.discard_head.Goals as goal

pub returns-in_err-rest : goal.returns-in_err-rest
returns-in_err-rest c = rw c.from_residual.ensures (λ more d. c.in_err-rest.ensures d.0 d.1)

pub returns-in_err-rest-2 : goal.returns-in_err-rest-2
returns-in_err-rest-2 c = rw c.from_residual-in_err-rest-2.ensures (λ more d.
    let e = behind (token Discard) (mark Colon ▸ mark OpenBrace)
    (token_fixed Discard) _ _ more c.in_ok-rest.ensures.0 d in
    c.in_err-rest-2.ensures e.0 e.1)

pub returns : goal.returns
returns c = follows_behind (token Discard) (mark Colon ▸ mark OpenBrace) (token_fixed Discard) _ _ c.in_ok-rest.ensures
    (λ x. x) c.after-2.result
    (follows_behind (mark Colon) (mark OpenBrace) (mark_fixed Colon) _ _ c.in_ok-rest-2.ensures
    (λ x. x) c.after-2.result c.after-2.ensures)
