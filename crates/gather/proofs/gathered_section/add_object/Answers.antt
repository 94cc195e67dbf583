use Rattle.gather.proofs.Common.{ObjectPlace, ap, gathered_by, map, on_ok_weaker, section_of, shown_input, ◌++◌, ◌∙◌}
use Rattle.gather.proofs.Common.{◌≡◌}
use Rattle.gather.proofs.ObjectFacts.{object_added}
use Rattle.gather.proofs.gathered_section.add_object.Goals as goal

pub returns-clause-added : goal.returns-clause-added
returns-clause-added c =
    let o = shown_input c.args.input.now in
    let key : ObjectPlace = record { 0 = c.args.place } in
    let before = c.args.sections.now.items in
    let mid = c.add_linked.new.sections.items in
    let linked : mid ≡ before ++ gathered_by key (map section_of o.object.sections) c.args.matches.now.linked.items =
    c.in_ok-add_linked.ensures
    ∙ (ap (λ ss. before ++ gathered_by key ss c.deref.result.now) c.sections.ensures.value
    ∙ ap (λ rs. before ++ gathered_by key (map section_of o.object.sections) rs) c.deref.ensures.value) in
    on_ok_weaker c.add_blocks.result
    (λ h p matched own. object_added p key o c.args.matches.now c.args.blocks.now before mid
    c.add_blocks.new.sections.items matched own linked h)
    c.add_blocks.ensures
