use Rattle.relink_driver.proofs.Common.{and_parts, arith, sym, ◌∙◌}
use Rattle.relink_driver.proofs.StayedAtSameStart.{stays_fixed}
use Rattle.relink_driver.proofs.stayed_column.has_same_location.Goals as goal

pub returns-then-is_at_same_start : goal.returns-then-is_at_same_start
returns-then-is_at_same_start c =
    let both = and_parts _ _ (sym c.is_at_same_start.ensures ∙ c.if-is_at_same_start.true) in
    sym (stays_fixed c.args.previous.now c.args.link_layout.now c.args.before c.args.now both.0
    (omega (arith, c.start_of-start.type_inv, c.start_of-start.ensures))
    (sym (c.requires.with_same_start c.args.now.section.0) ∙ both.1))
