use Rattle.relink_driver.proofs.Common.{AreMatched, ap, map, subst, sym, ◌∙◌}
use Rattle.relink_driver.proofs.from_scratch.link.Goals as goal

pub link_over-requires-clause-symbol_table : goal.link_over-requires-clause-symbol_table
link_over-requires-clause-symbol_table c =
    c.in_ok-symbol_table.ensures.symbol_table c.args.project.now (sym c.inputs.ensures.same) (sym c.script.ensures)

pub link_over-requires-clause-matches : goal.link_over-requires-clause-matches
link_over-requires-clause-matches c =
    subst (AreMatched c.args.project.now)
    (sym c.deref.ensures.value ∙ sym c.in_ok-match_refs.ensures ∙ ap (map (λ x. x.now))
    (sym c.deref-2.ensures.value))
    c.in_ok-matches.ensures
