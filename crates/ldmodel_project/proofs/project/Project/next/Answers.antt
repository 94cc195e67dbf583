use Rattle.ldmodel_project.proofs.Found.{found_under-next}
use Rattle.ldmodel_project.proofs.project.Project.next.Goals as goal

pub returns-clause-found : goal.returns-clause-found
returns-clause-found c key = found_under-next c.args.self.now.contents c.args.staged.now.objects key c.requires
