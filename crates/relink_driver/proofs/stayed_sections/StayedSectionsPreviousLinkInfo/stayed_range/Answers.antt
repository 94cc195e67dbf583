use Rattle.relink_driver.proofs.Common.{KnownLink, ap, option_and_then, previous_of, range_at, sym, ◌∙◌}
use Rattle.relink_driver.proofs.Columns.{not_found, range_found}
use Rattle.relink_driver.proofs.Ranges.{if_known, sound}
use Rattle.relink_driver.proofs.stayed_sections.StayedSectionsPreviousLinkInfo.stayed_range.Goals as goal

pub returns-then-not-find_stayed-clause-range : goal.returns-then-not-find_stayed-clause-range
returns-then-not-find_stayed-clause-range c = not_found _ (sym c.find_stayed.ensures ∙ c.if-not-find_stayed.true)

pub returns-in_err-now-clause-range : goal.returns-in_err-now-clause-range
returns-in_err-now-clause-range c =
    let s = c.args.self.now in
    c.from_residual.ensures
    ∙ ap (option_and_then (range_at s.indexed_layout.now.link_layout)) c.in_err-now.ensures.is
    ∙ range_found (previous_of s.previous) s.indexed_layout.now c.args.section
    (sym c.find_stayed.ensures ∙ c.if-not-find_stayed.false)

pub returns-clause-range : goal.returns-clause-range
returns-clause-range c =
    let s = c.args.self.now in
    c.range_at.ensures
    ∙ ap (option_and_then (range_at s.indexed_layout.now.link_layout)) c.in_ok-now.ensures.is
    ∙ range_found (previous_of s.previous) s.indexed_layout.now c.args.section
    (sym c.find_stayed.ensures ∙ c.if-not-find_stayed.false)

pub returns-clause-stayed : goal.returns-clause-stayed
returns-clause-stayed c = λ old l h.
    if_known old l c.args.section c.range_at.result (λ r e.
    sound old l (λ k. ap (λ (m : KnownLink). m.number k) h.link) h.names c.args.self.now.indexed_layout.now
    h.indexed_layout (previous_of c.args.self.now.previous) h.previous c.args.section r
    (sym (returns-clause-range c) ∙ e))
