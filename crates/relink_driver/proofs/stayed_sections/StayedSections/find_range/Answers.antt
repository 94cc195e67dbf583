use Rattle.relink_driver.proofs.Common.{ap, previous_of, sym, ◌∙◌}
use Rattle.relink_driver.proofs.Ranges.{both, none_before, none_known, none_now}
use Rattle.relink_driver.proofs.stayed_sections.StayedSections.find_range.Goals as goal

pub returns-in_err-previous : goal.returns-in_err-previous
returns-in_err-previous c =
    c.from_residual.ensures
    ∙ sym (none_known (previous_of c.args.self.now.previous) c.args.self.now.indexed_layout.now
    c.args.section (ap previous_of c.in_err-previous.was))

pub returns-in_err-before : goal.returns-in_err-before
returns-in_err-before c =
    c.from_residual-in_err-before.ensures
    ∙ none_before c.args.self.now.previous c.in_ok-previous.previous c.in_ok-previous.was
    c.args.self.now.indexed_layout.now
    c.args.section c.in_err-before.ensures

pub returns-in_err-now : goal.returns-in_err-now
returns-in_err-now c =
    c.from_residual-in_err-now.ensures
    ∙ none_now c.args.self.now.previous c.in_ok-previous.previous c.in_ok-previous.was
    c.args.self.now.indexed_layout.now
    c.args.section c.in_ok-before.before c.in_ok-before.ensures c.in_err-now.ensures.is

pub returns : goal.returns
returns c =
    c.range_if_stayed.ensures
    ∙ both c.args.self.now.previous c.in_ok-previous.previous c.in_ok-previous.was c.args.self.now.indexed_layout.now
    c.args.section c.in_ok-before.before c.in_ok-before.ensures c.in_ok-now.now c.in_ok-now.ensures.is
