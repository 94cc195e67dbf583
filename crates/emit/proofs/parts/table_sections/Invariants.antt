-- Those so far are of the output sections.
use Rattle.emit.proofs.Common.{AllZip, Bool, IsOutput, IsTableSection, Layout, Project, SectionRef, take}
use Rattle.emit.proofs.parts.table_sections.Given as goal

abbrev pub invariant-loop-output : goal.invariant-loop-output
invariant-loop-output l =
    (p : Project) (s : Layout) (stays : SectionRef → Bool) → AllZip (IsOutput p s stays) s.sections l.outputs
    → AllZip (IsTableSection s) (take l.output-index s.sections) l.sections.items
