use Rattle.ldmodel_project.proofs.Common.{AreNamesDistinct, Project, ap, subst}
use Rattle.ldmodel_project.proofs.view.ProjectView.inputs.Goals as goal

pub returns-clause-distinct : goal.returns-clause-distinct
returns-clause-distinct c =
    subst AreNamesDistinct (ap (λ (p : Project). p.objects) c.self.view_is) c.self.invariant
