use Rattle.relink_driver.proofs.Common.{KnownLink, ap, previous_of}
use Rattle.relink_driver.specs.StayedSections.{range_of}
use Rattle.relink_driver.proofs.Ranges.{if_known, sound}
use Rattle.relink_driver.proofs.stayed_sections.StayedSectionsPreviousLinkInfo.has_stayed.Goals as goal

pub returns-clause-sound : goal.returns-clause-sound
returns-clause-sound c = λ old l h.
    if_known old l c.args.section (range_of c.args.self.now c.args.section) (λ r e.
    sound old l (λ k. ap (λ (m : KnownLink). m.number k) h.link) h.names c.args.self.now.indexed_layout.now
    h.indexed_layout (previous_of c.args.self.now.previous) h.previous c.args.section r e)
