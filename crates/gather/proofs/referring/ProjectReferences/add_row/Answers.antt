use Rattle.gather.proofs.Common.{AddsTargets, LinkedSection, List, OnOk, Relocation, [], ap, option_copied}
use Rattle.gather.proofs.Common.{relocations_of, subst, sym, ◌∙◌}
use Rattle.gather.proofs.ByNumber.{asked_at}
use Rattle.gather.proofs.referring.ProjectReferences.add_row.Goals as goal

pub returns-in-Some : goal.returns-in-Some
returns-in-Some c =
    let key = c.args.section.now.section in
    subst (λ (rs : List Relocation). OnOk c.add_targets.result (AddsTargets c.args.self.now.project.now key.object.0
    rs c.args.targets.now.items c.add_targets.new.targets.items))
    (asked_at (λ (x : LinkedSection). x.relocations) [] c.args.self.now.project.now key.object.0 c.in-Some.object.now
    c.in-InTable.number c.relocations_at-relocations.result.now (sym c.object.ensures ∙ ap option_copied c.in-Some.is)
    c.relocations_at-relocations.ensures ∙ ap (relocations_of c.args.self.now.project.now key.object.0)
    (sym c.in-InTable.is))
    c.add_targets.ensures
