use Rattle.ldmodel_project.proofs.Common.{AreNamesDistinct, AreObjectsNamed, Project, ap, subst}
use Rattle.ldmodel_project.proofs.Naming.{all_named}
use Rattle.ldmodel_project.proofs.view.ProjectView.objects_are_named.Goals as goal

pub returns-clause-named : goal.returns-clause-named
returns-clause-named c =
    subst AreObjectsNamed (ap (λ (p : Project). p.objects) c.self.view_is) (all_named c.self.inside.inputs.now)

pub returns-clause-distinct : goal.returns-clause-distinct
returns-clause-distinct c =
    subst AreNamesDistinct (ap (λ (p : Project). p.objects) c.self.view_is) c.self.invariant
