use Rattle.relink_driver.proofs.Common.{Bool, HasTouched, Project, previous_of, project_of, subst}
use Rattle.relink_driver.proofs.ObjectOverwritten.{worked_after}
use Rattle.relink_driver.proofs.driver.relink_with_or_without_map.Goals as goal

pub returns-in-Ok-clause-worked : goal.returns-in-Ok-clause-worked
returns-in-Ok-clause-worked c =
    let p : Project = project_of c.args.context in
    worked_after c.args.context.with_map p (previous_of c.args.context.previous) c.args.canvas.now.bytes
    c.rewrite_if_only_contents_differ.new.canvas.bytes c.run_passes.new.canvas.bytes c.args.meter.now
    c.rewrite_if_only_contents_differ.new.meter
    c.run_passes.new.meter c.in-Ok.ended
    (subst (λ (b : Bool). HasTouched p (previous_of c.args.context.previous) c.args.canvas.now.bytes
    c.rewrite_if_only_contents_differ.new.canvas.bytes
    c.args.meter.now c.rewrite_if_only_contents_differ.new.meter b) c.if-branch.false
    c.in_ok-rewrite_if_only_contents_differ.ensures.done)
    c.in-Ok.ensures.ended c.in-Ok.ensures.worked
