use Rattle.place_sections.proofs.Common.{head_from, layout_of, row_named}
use Rattle.place_sections.proofs.Alongside.{section_opened}
use Rattle.place_sections.proofs.Options.{for_some}
use Rattle.place_sections.proofs.state.LayoutCursor.place_section.Goals as goal

pub body-requires : goal.body-requires
body-requires g c = (
  for_some c.args.starts _ _ c.requires.1.0
      (λ s a. section_opened c.steps_stay_alike.ensures.heads (row_named g.naming c.args.row.now)
      (layout_of g.naming c.args.self.now c.args.done.now) c.args.line c.args.output.now s.now a
      (head_from c.in_ok-head.head) c.in_ok-head.ensures),
  c.requires.1.1,
)
