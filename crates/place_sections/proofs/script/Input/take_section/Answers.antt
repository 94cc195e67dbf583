use Rattle.place_sections.proofs.script.Input.take_section.Goals as goal

pub take-requires : goal.take-requires
take-requires c = record { next = c.requires.next _ c.output_at-output.ensures.there }
