-- Of the sections so far.
use Rattle.gather.proofs.Common.{GatheredSection, is_out_of, map, take, ◌≡◌}
use Rattle.ldscript.specs.statements.Numbered.{shown_inputs}
use Rattle.gather.specs.Matches.{number_of}
use Rattle.gather.proofs.discarded_sections.each_discarded.Given as goal

abbrev pub invariant-loop-section : goal.invariant-loop-section
invariant-loop-section l = l.out.items
    ≡ map (λ (x : GatheredSection). is_out_of (shown_inputs l.statements) l.orphans x.size (number_of x.statement))
    (take l.section-index l.sections)
