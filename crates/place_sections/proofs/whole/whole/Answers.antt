use Rattle.place_sections.proofs.Common.{Ends, subst, sym, ◌∙◌}
use Rattle.place_sections.proofs.Wholes.{ends_whole}
use Rattle.place_sections.proofs.whole.whole.Goals as goal

pub invariant_of-result : goal.invariant_of-result
invariant_of-result g c =
    subst Ends (c.parts-parts.ensures.sections ∙ sym c.in_ok-sections.ensures) (ends_whole _ c.parts-parts.ensures.ends)
