use Rattle.ldscript.proofs.Common.{Assign, Expression, codes, key, mark}
use Rattle.ldscript.proofs.Singles.{key_fixed}
use Rattle.ldscript.proofs.Reading.{follows_behind}
use Rattle.ldscript.proofs.read_region.region_middle.Goals as goal

pub returns-in_err-rest : goal.returns-in_err-rest
returns-in_err-rest c = rw c.from_residual.ensures (λ more d. c.in_err-rest.ensures d.0 d.1)

pub returns : goal.returns
returns c = follows_behind (key Expression (codes "LENGTH")) (mark Assign)
    (key_fixed Expression (codes "LENGTH")) _ _ c.in_ok-rest.ensures (λ x. x) c.after.result c.after.ensures
