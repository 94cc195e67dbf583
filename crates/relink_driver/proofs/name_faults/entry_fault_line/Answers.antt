use Rattle.relink_driver.proofs.Common.{Link, List, [], ap, sym, ℕ, ◌∙◌}
use Rattle.relink_driver.proofs.EarlyEnds.{entry_line}
use Rattle.relink_driver.proofs.name_faults.entry_fault_line.Goals as goal

pub returns : goal.returns
returns c = λ p is script options.
    let q = c.without_objects-view.result in
    let ended : List ℕ → Link = λ text. record { status = 1; image = []; map = []; faults = text } in
    entry_line p q (script ∙ sym (ap (λ x. x.script) c.without_objects-view.ensures))
    (options ∙ sym (ap (λ x. x.options) c.without_objects-view.ensures))
    (c.lacks_entry_alone.ensures c.if-not-lacks_entry_alone.false p is
    (script ∙ sym (ap (λ x. x.script) c.without_objects-view.ensures))
    (options ∙ sym (ap (λ x. x.options) c.without_objects-view.ensures)))
    ∙ ap ended (sym c.in_ok-text.ensures)
