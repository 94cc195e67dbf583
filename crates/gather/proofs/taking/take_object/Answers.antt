use Rattle.gather.proofs.Common.{ObjectPlace, Takes, gathered_by, map, on_ok_weaker, section_of, shown_input, subst}
use Rattle.ldscript.specs.statements.Numbered.{shown_inputs}
use Rattle.gather.proofs.AllTaken.{object_taken}
use Rattle.gather.proofs.taking.take_object.Goals as goal

pub returns-clause-added : goal.returns-clause-added
returns-clause-added c =
    let o = shown_input c.args.input.now in
    let key : ObjectPlace = record { 0 = c.args.place } in
    let st = shown_inputs c.args.statements.now in
    let before = c.args.taken.now in
    let mid = c.take_linked.new.taken in
    let linked : Takes st c.args.orphans before mid
    (gathered_by key (map section_of o.object.sections) c.args.matches.now.linked.items) =
    subst (λ rs. Takes st c.args.orphans before mid (gathered_by key (map section_of o.object.sections) rs))
    c.deref.ensures.value
    (subst (λ ss. Takes st c.args.orphans before mid (gathered_by key ss c.deref.result.now)) c.sections.ensures.value
    c.in_ok-take_linked.ensures) in
    on_ok_weaker c.take_blocks.result
    (λ h p matched own. object_taken st c.args.orphans p key o c.args.matches.now c.args.blocks.now before mid
    c.take_blocks.new.taken matched own linked h)
    c.take_blocks.ensures
