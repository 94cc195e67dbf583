use Rattle.relink_driver.proofs.Common.{KnownLink, ap, slice_get, sym, ◌∙◌}
use Rattle.relink_driver.proofs.stayed_sections.StayedSectionsPreviousLinkInfo.is_dirty.Goals as goal

pub returns : goal.returns
returns c = λ old l h kept e t at.
    h.dirty c.args.object.0 t (sym c.dirty_bit.ensures ∙ e)
    (ap (λ k. slice_get l.project.objects k) (sym (ap (λ (m : KnownLink). m.number c.args.object.0) h.link)) ∙ at)
