use Rattle.place_sections.proofs.Reporting.{stands_not_ready}
use Rattle.place_sections.proofs.fault.not_ready.Goals as goal

pub returns-in-Ok : goal.returns-in-Ok
returns-in-Ok c = stands_not_ready c.args.script.now c.args.line c.in-Ok.name c.args.name.now c.in-Ok.ensures
