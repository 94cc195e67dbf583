use Rattle.gather.proofs.Common.{arith, length, ◌<◌}
use Rattle.gather.proofs.Refers.{next_targets, no_targets}
use Rattle.gather.proofs.referring.ProjectReferences.add_targets.Goals as goal

pub loop-relocation-init : goal.loop-relocation-init
loop-relocation-init c = no_targets c.args.self.now.project.now c.args.place c.args.targets.now.items

pub loop-relocation-preserved : goal.loop-relocation-preserved
loop-relocation-preserved c =
    let low : c.loop-relocation.relocation-index < length c.args.relocations.now =
    omega (arith, c.loop-relocation-test.true) in
    next_targets c.args.self.now.project.now c.args.place c.args.relocations.now c.loop-relocation.relocation-index _
    c.target_place-target.result c.args.targets.now.items c.loop-relocation.targets.items
    c.add_number.new.targets.items low c.target_place-target.ensures c.in_ok-add_number.ensures
    c.loop-relocation.invariant
