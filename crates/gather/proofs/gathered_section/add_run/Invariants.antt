-- The sections so far are added.
use Rattle.gather.proofs.Common.{gathered, map, take, ◌++◌, ◌≡◌}
use Rattle.gather.proofs.gathered_section.add_run.Given as goal

abbrev pub invariant-loop-section : goal.invariant-loop-section
invariant-loop-section l =
    l.sections.items ≡ l.initial.sections.items ++ map (gathered l.place l.statement) (take l.section-index l.run)
