use Rattle.gather.proofs.Common.{ap, input_of, map, sym, ◌∙◌}
use Rattle.ldscript.specs.statements.Numbered.{shown_inputs}
use Rattle.gather.proofs.SameInputs.{same_matches}
use Rattle.gather.proofs.same_inputs.have_same_inputs.Goals as goal

pub returns : goal.returns
returns c same =
    same_matches c.args.one.now c.args.other.now
    (ap (map input_of) (sym c.in_ok-statements.ensures)
    ∙ (ap (λ l. map input_of (shown_inputs l)) (sym c.deref.ensures.value)
    ∙ (c.are_same_inputs.ensures same
    ∙ (ap (λ l. map input_of (shown_inputs l)) c.deref-2.ensures.value
    ∙ ap (map input_of) c.in_ok-of_other.ensures))))
