use Rattle.ldmodel_project.proofs.Common.{Listing, ProjectState, ap, found_under, next_found, sym, ◌∙◌}
use Rattle.ldmodel_project.proofs.Found.{found_under-next}
use Rattle.ldmodel_project.proofs.project.Next.named.Goals as goal

pub returns : goal.returns
returns c =
    let staged = c.self.inside.staged.now.objects in
    c.found.ensures
    ∙ (ap (λ (h : ProjectState). next_found h.contents.entries staged.step c.args.key.0) c.project.view_is
    ∙ (sym (found_under-next c.self.inside.project.now.contents staged c.args.key.0 c.self.invariant)
    ∙ ap (λ (l : Listing). found_under l.entries c.args.key.0) c.self.view_is))
