use Rattle.relink_driver.proofs.Common.{ap, same_Some, slice_get, sym, ◌∙◌}
use Rattle.relink_driver.proofs.stayed_sections.PreviousView.values.Goals as goal

pub returns-in-Some : goal.returns-in-Some
returns-in-Some c = λ p layout from o at worth stands many.
    let same = same_Some c.in-Some.place from (sym c.in-Some.is ∙ (c.origin.ensures ∙ at)) in
    c.slice.ensures.values p layout o worth (ap (slice_get p.objects) same ∙ stands) many
