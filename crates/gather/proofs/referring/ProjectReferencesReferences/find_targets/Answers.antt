use Rattle.gather.proofs.Common.{on_ok_weaker}
use Rattle.gather.proofs.Starting.{refers_at}
use Rattle.gather.proofs.referring.ProjectReferencesReferences.find_targets.Goals as goal

pub returns : goal.returns
returns c =
    let r = c.args.self.now in
    on_ok_weaker c.add_row.result
    (refers_at r.project.now r.sections.now c.args.section _ c.clear.new.self.items c.add_row.new.targets.items
    c.requires.can.sections c.requires.within c.clear.ensures.items) c.add_row.ensures
