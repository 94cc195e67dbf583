use Rattle.relink_driver.proofs.Common.{Part, ap, is_some, sym, ◌∙◌}
use Rattle.relink_driver.specs.StayedSections.{range_of}
use Rattle.relink_driver.proofs.stayed_sections.StayedSections.find_stayed.Goals as goal

pub returns-in-InTable : goal.returns-in-InTable
returns-in-InTable c =
    let s = c.args.self.now in
    c.has_stayed.ensures ∙ s.found c.args.section.object c.in-InTable.number
    ∙ ap (λ (p : Part). is_some (range_of s (record { object = c.args.section.object; part = p })))
    (sym c.in-InTable.is)
