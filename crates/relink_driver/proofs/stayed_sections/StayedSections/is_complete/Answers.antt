use Rattle.relink_driver.proofs.Common.{KnownLink, ap, previous_of}
use Rattle.relink_driver.specs.StayedSections.{range_of}
use Rattle.relink_driver.proofs.Ranges.{complete_or_none, if_known, none_known, sound}
use Rattle.relink_driver.proofs.stayed_sections.StayedSections.is_complete.Goals as goal

pub returns-clause-complete : goal.returns-clause-complete
returns-clause-complete c = λ old l h some.
    complete_or_none old l (λ k. ap (λ (m : KnownLink). m.number k) h.link) h.names
    c.args.self.now.indexed_layout.now h.indexed_layout c.args.self.now.previous some h.previous h.short
    (c.files_in_order.ensures l.layout.sections) (c.sections_in_file.ensures.all l.layout.sections)
    (c.sections_in_file.ensures.offset l.layout.sections h.indexed_layout.link_layout.named)

pub returns-clause-sound : goal.returns-clause-sound
returns-clause-sound c = λ old l h key.
    if_known old l key (range_of c.args.self.now key) (λ r e.
    sound old l (λ k. ap (λ (m : KnownLink). m.number k) h.link) h.names
    c.args.self.now.indexed_layout.now h.indexed_layout (previous_of c.args.self.now.previous) h.previous key r e)

pub returns-clause-none : goal.returns-clause-none
returns-clause-none c = λ e k.
    none_known (previous_of c.args.self.now.previous) c.args.self.now.indexed_layout.now k (ap previous_of e)
