-- Those in memory, and then those where sections are loaded.
use Rattle.place_sections.proofs.Common.{Load, Memory, ap, extents_in, overlaps_before, ◌++◌, ◌∙◌}
use Rattle.place_sections.proofs.Named.{both_overlaps}
use Rattle.place_sections.proofs.overlaps.overlaps.Goals as goal

pub returns : goal.returns
returns c =
    both_overlaps c.args.sections.now c.push_overlaps-2.new.faults.items
    (c.in_ok-push_overlaps-2.ensures
    ∙ ap (λ l. l ++ overlaps_before Load (extents_in Load c.args.sections.now))
    (c.in_ok-push_overlaps.ensures
    ∙ ap (λ l. l ++ overlaps_before Memory (extents_in Memory c.args.sections.now)) c.new-faults.ensures.items))
