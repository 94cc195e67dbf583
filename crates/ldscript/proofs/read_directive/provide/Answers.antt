use Rattle.ldscript.proofs.Common.{codes, key, provided_assignment}
use Rattle.ldscript.proofs.Singles.{key_fixed}
use Rattle.ldscript.proofs.Reading.{reads_behind}
use Rattle.ldscript.proofs.read_directive.provide.Goals as goal

pub returns-in-Some : goal.returns-in-Some
returns-in-Some c = reads_behind (key c.args.mode (codes "PROVIDE")) provided_assignment
    (key_fixed c.args.mode (codes "PROVIDE")) _ _ c.in-Some.ensures (λ x. x.0) (λ x. x.1) _ c.provided.ensures

pub returns-in-None : goal.returns-in-None
returns-in-None c = λ y more d. c.in-None.ensures d.0 d.1
