use Rattle.ldscript.proofs.Common.{asserted, codes, key}
use Rattle.ldscript.proofs.Singles.{key_fixed}
use Rattle.ldscript.proofs.Reading.{reads_behind}
use Rattle.ldscript.proofs.read_directive.assertion.Goals as goal

pub returns-in-Some : goal.returns-in-Some
returns-in-Some c = reads_behind (key c.args.mode (codes "ASSERT")) asserted
    (key_fixed c.args.mode (codes "ASSERT")) _ _ c.in-Some.ensures (λ x. x.0) (λ x. x.1) _ c.asserted.ensures

pub returns-in-None : goal.returns-in-None
returns-in-None c = λ y more d. c.in-None.ensures d.0 d.1
