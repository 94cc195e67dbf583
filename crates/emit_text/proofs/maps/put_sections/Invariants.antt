-- With the lines still to come, the text is the whole one.
use Rattle.emit_text.proofs.Common.{drop, map, sections_text, shown_sections, vec_items, ◌++◌, ◌≡◌}
use Rattle.emit_text.proofs.maps.put_sections.Given as goal

abbrev pub invariant-loop-k : goal.invariant-loop-k
invariant-loop-k l =
    l.text.items ++ sections_text l.project (drop l.k l.parts.placement.sections.now)
    (drop l.k (shown_sections l.parts.sections.now)) (drop l.k (map vec_items l.parts.rows.now)) l.starts
    ≡ l.initial.text.items ++ sections_text l.project l.parts.placement.sections.now
    (shown_sections l.parts.sections.now) (map vec_items l.parts.rows.now) l.parts.placement.starts.now
