use Rattle.gather.proofs.Common.{LinkedSection, [], ap, name_of_part, option_copied, sym, ◌∙◌}
use Rattle.gather.proofs.ByNumber.{asked_at, asked_of_none}
use Rattle.gather.proofs.section_names.section_name.Goals as goal

pub returns-in-Some : goal.returns-in-Some
returns-in-Some c =
    let key = c.args.section in
    asked_at (λ (x : LinkedSection). x.name) [] c.args.project.now key.object.0 c.in-Some.object.now
    c.in-InTable.number c.name_at.result.now (sym c.object.ensures ∙ ap option_copied c.in-Some.is) c.name_at.ensures
    ∙ ap (name_of_part c.args.project.now key.object.0) (sym c.in-InTable.is)

pub returns-in-None : goal.returns-in-None
returns-in-None c =
    let key = c.args.section in
    asked_of_none (λ (x : LinkedSection). x.name) [] c.args.project.now key.object.0 c.in-InTable.number
    (sym c.object.ensures ∙ ap option_copied c.in-None.is)
    ∙ ap (name_of_part c.args.project.now key.object.0) (sym c.in-InTable.is)
