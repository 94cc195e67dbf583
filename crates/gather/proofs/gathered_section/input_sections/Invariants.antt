-- The sections of the objects so far.
use Rattle.gather.proofs.Preparing.{GatheredBefore}
use Rattle.gather.proofs.gathered_section.input_sections.Given as goal

abbrev pub invariant-loop-place : goal.invariant-loop-place
invariant-loop-place l = GatheredBefore l.project l.place l.sections.items
