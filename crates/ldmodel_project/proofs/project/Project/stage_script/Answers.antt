use Rattle.ldmodel_project.proofs.Leading.{stages_script}
use Rattle.ldmodel_project.proofs.project.Project.stage_script.Goals as goal

pub returns-in-Ok-clause-staged : goal.returns-in-Ok-clause-staged
returns-in-Ok-clause-staged c =
    stages_script c.args.self.now c.args.text.now c.in-Ok.script c.stage_read.result c.in_default.ensures.ok
    c.in-Ok.ensures.read c.stage_read.ensures.made
