use Rattle.gather.proofs.Common.{InputIndex, OnOk, Option, Takes, gathered, map, subst, sym}
use Rattle.ldscript.specs.statements.Numbered.{shown_inputs}
use Rattle.gather.proofs.taking.take_run.Goals as goal

pub returns-in-Some : goal.returns-in-Some
returns-in-Some c =
    subst (λ (s : Option InputIndex). OnOk c.take_matched.result (Takes (shown_inputs c.args.statements.now)
    c.args.orphans c.args.taken.now c.take_matched.new.taken (map (gathered c.args.place s) c.args.run.now)))
    (sym c.in-Some.is) c.take_matched.ensures

pub returns-in-None : goal.returns-in-None
returns-in-None c =
    subst (λ (s : Option InputIndex). OnOk c.take_each.result (Takes (shown_inputs c.args.statements.now)
    c.args.orphans c.args.taken.now c.take_each.new.taken (map (gathered c.args.place s) c.args.run.now)))
    (sym c.in-None.is) c.take_each.ensures
