-- Those so far are drawn.
use Rattle.emit.proofs.Common.{AllZip, AreDrawnOf, Bool, IsOutput, Layout, Project, SectionRef, take}
use Rattle.emit.proofs.parts.lend_sections.Given as goal

abbrev pub invariant-loop-output : goal.invariant-loop-output
invariant-loop-output l =
    (p : Project) (s : Layout) (stays : SectionRef → Bool) → AllZip (IsOutput p s stays) s.sections l.outputs
    → AreDrawnOf p s stays (take l.output-index s.sections) l.sections.items
