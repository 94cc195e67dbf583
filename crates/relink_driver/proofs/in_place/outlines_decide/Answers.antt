use Rattle.relink_driver.proofs.in_place.outlines_decide.Goals as goal

pub returns : goal.returns
returns c = λ old p i h. record {
  decided = c.rewritten_names.ensures.decided old.project p i h;
  provided = c.rewritten_names.ensures.provided old.project p i h;
  worth = c.rewritten_values.ensures.names old.project p i h old.layout;
  rows = c.rewritten_rows.ensures.rows old.project p i h;
  layout = c.rewritten_layout.ensures old.project p i h;
  frame = c.rewritten_frame.ensures.frame old.project p i h old.layout;
  map = c.rewritten_frame.ensures.map old.project p i h old.layout;
  link = c.rewritten_link.ensures old.project p i h old.layout;
}
