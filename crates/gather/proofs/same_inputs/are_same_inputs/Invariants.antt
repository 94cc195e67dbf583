use Rattle.gather.proofs.Common.{input_of, map, take, ◌≡◌}
use Rattle.ldscript.specs.statements.Numbered.{shown_inputs}
use Rattle.gather.proofs.same_inputs.are_same_inputs.Given as goal

abbrev pub invariant-loop-number : goal.invariant-loop-number
invariant-loop-number l =
    map input_of (shown_inputs (take l.number l.one)) ≡ map input_of (shown_inputs (take l.number l.other))
