-- What was found, with what is still to be found, is all.
use Rattle.gather.proofs.Common.{drop, kept_numbers, ◌++◌, ◌≡◌}
use Rattle.ldscript.specs.statements.Numbered.{shown_inputs}
use Rattle.gather.proofs.roots.kept.Given as goal

abbrev pub invariant-loop-number : goal.invariant-loop-number
invariant-loop-number l = l.found.items ++ kept_numbers (shown_inputs l.statements) l.number (drop l.number l.sections)
    ≡ kept_numbers (shown_inputs l.statements) 0 l.sections
