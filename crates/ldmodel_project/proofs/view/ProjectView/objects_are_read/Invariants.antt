use Rattle.ldmodel_project.proofs.Common.{shown_inputs, take}
use Rattle.ldmodel_project.specs.Read.{AreObjectsRead}
use Rattle.ldmodel_project.proofs.view.ProjectView.objects_are_read.Given as goal

-- the objects so far were read
abbrev pub invariant-loop-input : goal.invariant-loop-input
invariant-loop-input l = AreObjectsRead (shown_inputs (take l.input-index l.input-items))
