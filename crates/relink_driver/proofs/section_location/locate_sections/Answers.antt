use Rattle.relink_driver.proofs.Common.{None, Some, [], ap, append-nil, map, section_of, spot_with, sym, ◌++◌, ◌∙◌, ◌∷◌}
use Rattle.relink_driver.proofs.TablesShowObject.{one_more_spot}
use Rattle.relink_driver.proofs.section_location.locate_sections.Goals as goal
use Rattle.relink_driver.proofs.section_location.locate_sections.Goals.{in-Some+in_ok-push, in_default}

pub loop-index-preserved : goal.loop-index-preserved
loop-index-preserved c = elim c.match-find_location.branch [
  | in-Some+in_ok-push w ↦
      ap (λ v. v.items) w.located-is ∙ w.in_ok-push.ensures.items
      ∙ ap (λ l. l ++ spot_with c.loop-index.index w.in-Some.section_location ∷ []) c.loop-index.invariant
      ∙ sym (one_more_spot c.args.indexed_layout.now c.args.place (map section_of c.args.object.now.sections)
      c.sections-sections.result.now c.loop-index.index _
      (Some w.in-Some.section_location) c.sections-sections.ensures.value
      c.loop-index-test.true (sym w.in-Some.is ∙ c.find_location.ensures))
  | in_default w ↦
      ap (λ v. v.items) w.located-is ∙ c.loop-index.invariant ∙ sym (append-nil _)
      ∙ sym (one_more_spot c.args.indexed_layout.now c.args.place (map section_of c.args.object.now.sections)
      c.sections-sections.result.now c.loop-index.index _ None c.sections-sections.ensures.value
      c.loop-index-test.true (sym w.in_default.is ∙ c.find_location.ensures))
]
