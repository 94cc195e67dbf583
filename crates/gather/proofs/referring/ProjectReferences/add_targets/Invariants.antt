-- The targets of the relocations so far are added.
use Rattle.gather.proofs.Common.{AddsTargets, take}
use Rattle.gather.proofs.referring.ProjectReferences.add_targets.Given as goal

abbrev pub invariant-loop-relocation : goal.invariant-loop-relocation
invariant-loop-relocation l =
    AddsTargets l.self.project.now l.place (take l.relocation-index l.relocations) l.initial.targets.items
    l.targets.items
