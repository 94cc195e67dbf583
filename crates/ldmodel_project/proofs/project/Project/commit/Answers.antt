use Rattle.ldmodel_project.proofs.Common.{List, Listed, ProjectState, ap, found_under, next_entries, ◌∙◌}
use Rattle.ldmodel_project.proofs.Found.{found_under-next}
use Rattle.ldmodel_project.proofs.project.Project.commit.Goals as goal

pub returns-in-Some-clause-found : goal.returns-in-Some-clause-found
returns-in-Some-clause-found c key =
    ap (λ (es : List Listed). found_under es key)
    (c.commit.ensures.next ∙ ap (λ (h : ProjectState). next_entries h.contents.entries c.args.staged.objects)
    c.self.view_is)
    ∙ found_under-next c.args.self.now.contents c.args.staged.objects key c.requires

pub returns-in_default-clause-found : goal.returns-in_default-clause-found
returns-in_default-clause-found c key =
    ap (λ (es : List Listed). found_under es key)
    (c.commit.ensures.next ∙ ap (λ (h : ProjectState). next_entries h.contents.entries c.args.staged.objects)
    c.self.view_is)
    ∙ found_under-next c.args.self.now.contents c.args.staged.objects key c.requires
