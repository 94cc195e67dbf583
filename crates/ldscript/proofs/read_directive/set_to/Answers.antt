use Rattle.ldscript.proofs.Common.{Assign, Semicolon, ended, mark}
use Rattle.ldscript.proofs.Singles.{mark_fixed}
use Rattle.ldscript.proofs.Reading.{reads_behind}
use Rattle.ldscript.proofs.read_directive.set_to.Goals as goal

pub returns-in-Some : goal.returns-in-Some
returns-in-Some c = reads_behind (mark Assign) (ended Semicolon) (mark_fixed Assign) _ _ c.in-Some.ensures (λ x. x.0)
    (λ x. x.1) _ c.ended.ensures

pub returns-in-None : goal.returns-in-None
returns-in-None c = λ y more d. c.in-None.ensures d.0 d.1
