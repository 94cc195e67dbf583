use Rattle.relink_driver.proofs.Common.{KnownLink, ap, previous_of}
use Rattle.relink_driver.proofs.Ranges.{not_kept, were_worth}
use Rattle.relink_driver.proofs.stayed_sections.StayedSectionsPreviousLinkInfo.values.Goals as goal

pub returns-in-None : goal.returns-in-None
returns-in-None c = λ old l o h kept named many.
    absurd (not_kept (previous_of c.args.self.now.previous) c.args.self.now.indexed_layout.now c.args.object
    (ap previous_of c.in-None.is) kept)

pub returns-in-Some : goal.returns-in-Some
returns-in-Some c = λ old l o h kept named many.
    were_worth old l (λ k. ap (λ (m : KnownLink). m.number k) h.link) c.args.self.now.indexed_layout.now
    c.args.self.now.previous c.in-Some.previous c.in-Some.is h.previous c.args.object o named kept c.values.result.now
    (λ from at worth stands. c.values.ensures old.project old.layout from o at worth stands many)
