use Rattle.ldmodel_project.proofs.Common.{AreNamesDistinct, ProjectState, ap, objects_of, subst, sym, ◌∙◌}
use Rattle.ldmodel_project.proofs.project.Project.view.Goals as goal

pub new-requires : goal.new-requires
new-requires c =
    subst AreNamesDistinct
    (ap (λ (h : ProjectState). objects_of h.contents.entries) c.self.view_is ∙ sym c.requires)
    c.names_differ.ensures
