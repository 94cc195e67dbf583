-- The law is `outputs_are`.
use Rattle.place_sections.proofs.OutputsInOrder.{outputs_are}
use Rattle.place_sections.proofs.law.outputs_are_of_script.Goals as goal

pub returns : goal.returns
returns c = λ p rows provided s e. outputs_are p s (c.layout_by_effects.ensures p.script rows provided s e)
