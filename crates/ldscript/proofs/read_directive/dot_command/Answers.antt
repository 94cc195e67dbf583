use Rattle.ldscript.proofs.read_directive.dot_command.Goals as goal

pub returns-in-None : goal.returns-in-None
returns-in-None c = λ y more d. c.in-None.ensures d.0 d.1
