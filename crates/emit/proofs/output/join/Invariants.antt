-- Those so far are output sections of the layout.
use Rattle.emit.proofs.Common.{AllZip, Bool, IsOutput, Layout, Project, SectionRef, map, shown_sections, take}
use Rattle.emit.proofs.Common.{vec_items}
use Rattle.emit.proofs.output.join.Given as goal
use Rattle.emit.specs.Joined.{AreJoined}

abbrev pub invariant-loop-number : goal.invariant-loop-number
invariant-loop-number l =
    (p : Project) (s : Layout) (stays : SectionRef → Bool)
    → AreJoined p s stays l.placed (shown_sections l.sections) l.offsets (map vec_items l.pieces)
    (map (λ run. run.now) l.runs)
    → AllZip (IsOutput p s stays) (take l.number s.sections) l.outputs.items
