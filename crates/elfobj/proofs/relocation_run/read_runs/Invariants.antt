use Rattle.elfobj.specs.Runs.{AreRuns}
use Rattle.elfobj.proofs.relocation_run.read_runs.Given as goal

abbrev pub invariant-loop-class : goal.invariant-loop-class
invariant-loop-class l = AreRuns l.bytes l.tables l.all.items l.class l.runs.items
