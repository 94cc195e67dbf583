use Rattle.place_sections.proofs.Common.{drop, layout_of, region_step, run, ◌≡◌}
use Rattle.place_sections.proofs.state.LayoutCursor.declare_all.Given as goal

abbrev pub ghost-declare : goal.ghost-declare
ghost-declare g a = g.naming

abbrev pub invariant-loop-region : goal.invariant-loop-region
invariant-loop-region g l = record {
  gives : run region_step (layout_of g.naming l.self l.fn.done) l.regions
      ≡ run region_step (layout_of g.naming l.self l.done) (drop l.region-index l.regions);
  sections : l.done.sections ≡ l.fn.done.sections;
}
