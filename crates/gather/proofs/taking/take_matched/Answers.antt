use Rattle.gather.proofs.Common.{on_ok_weaker, refl, sym, ◌∙◌}
use Rattle.ldscript.specs.statements.Numbered.{shown_inputs}
use Rattle.gather.proofs.AllTaken.{run_taken}
use Rattle.gather.proofs.taking.take_matched.Goals as goal

pub returns-then-is_placed : goal.returns-then-is_placed
returns-then-is_placed c =
    on_ok_weaker c.add_run.result
    (λ added. run_taken (shown_inputs c.args.statements.now) c.args.orphans c.args.place c.args.number
    (sym c.is_placed.ensures ∙ c.if-is_placed.true) c.args.taken.now _ c.args.run.now added refl)
    c.add_run.ensures

pub returns : goal.returns
returns c = c.take_each.ensures
