use Rattle.emit_image.proofs.Alike.{alike, alike_self, drawing_alike}
use Rattle.emit_image.proofs.law.joined_is_whole.Goals as goal

pub returns-clause-stands : goal.returns-clause-stands
returns-clause-stands c = drawing_alike

pub returns-clause-alike : goal.returns-clause-alike
returns-clause-alike c = alike

pub returns-clause-own : goal.returns-clause-own
returns-clause-own c = alike_self
