-- The sections so far are taken.
use Rattle.gather.proofs.Common.{Takes, gathered, map, take}
use Rattle.ldscript.specs.statements.Numbered.{shown_inputs}
use Rattle.gather.proofs.taking.take_each.Given as goal

abbrev pub invariant-loop-section : goal.invariant-loop-section
invariant-loop-section l =
    Takes (shown_inputs l.statements) l.orphans l.initial.taken l.taken
    (map (gathered l.place l.statement) (take l.section-index l.run))
