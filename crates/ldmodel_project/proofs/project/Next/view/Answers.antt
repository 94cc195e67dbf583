use Rattle.ldmodel_project.proofs.Common.{AreNamesDistinct, Listing, ap, objects_of, subst, sym, ◌∙◌}
use Rattle.ldmodel_project.proofs.project.Next.view.Goals as goal

pub new-requires : goal.new-requires
new-requires c =
    subst AreNamesDistinct (ap (λ (l : Listing). objects_of l.entries) c.self.view_is ∙ sym c.requires)
    c.self.invariant.names
