use Rattle.gather.proofs.Common.{on_ok_weaker, refl, sym, ◌∙◌}
use Rattle.ldscript.specs.statements.Numbered.{shown_inputs}
use Rattle.gather.proofs.AllTaken.{orphan_taken, piece_taken}
use Rattle.gather.proofs.taking.take_section.Goals as goal

pub returns-in-Some : goal.returns-in-Some
returns-in-Some c =
    on_ok_weaker c.add_section.result
    (λ added. piece_taken (shown_inputs c.args.statements.now) c.args.orphans c.args.taken.now _ c.args.section.now
    (sym c.is_discarded.ensures ∙ c.if-is_discarded.false) c.in-Some.statement c.in-Some.is added refl)
    c.add_section.ensures

pub returns-in_ok-push-in-None : goal.returns-in_ok-push-in-None
returns-in_ok-push-in-None c =
    orphan_taken (shown_inputs c.args.statements.now) c.args.orphans c.args.taken.now _ c.args.section.now
    (sym c.is_discarded.ensures ∙ c.if-is_discarded.false) c.in-None.is refl c.in_ok-push-in-None.ensures.items
