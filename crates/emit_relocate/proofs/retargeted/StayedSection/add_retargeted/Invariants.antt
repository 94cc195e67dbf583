use Rattle.emit_relocate.proofs.Common.{AreRetargetedFiled, GoodLink, IsStayedAt, KnownLink, ObjectSection}
use Rattle.emit_relocate.proofs.Common.{sites_at_hand, take}
use Rattle.emit_relocate.proofs.retargeted.StayedSection.add_retargeted.Given as goal

abbrev pub invariant-loop-entry : goal.invariant-loop-entry
invariant-loop-entry l =
    (old : GoodLink) (k : KnownLink) (s : ObjectSection)
    → IsStayedAt l.self old k s
    → AreRetargetedFiled old k l.self.range
    (sites_at_hand l.self.section s (take l.entry l.self.section.relocations.now))
    l.initial.patches.items l.patches.items l.initial.faults.items l.faults.items l.initial.meter l.meter
