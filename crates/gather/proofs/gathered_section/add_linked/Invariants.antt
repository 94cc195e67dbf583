-- What is added, with what is still to be added, is all.
use Rattle.gather.proofs.Common.{drop, gathered_by, ◌++◌, ◌≡◌}
use Rattle.gather.proofs.gathered_section.add_linked.Given as goal

abbrev pub invariant-loop-run : goal.invariant-loop-run
invariant-loop-run l = l.sections.items ++ gathered_by l.place l.rest (drop l.run-index l.runs)
    ≡ l.initial.sections.items ++ gathered_by l.place l.linked l.runs
