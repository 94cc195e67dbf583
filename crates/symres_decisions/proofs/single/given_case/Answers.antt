use Rattle.symres_decisions.proofs.Common.{ap, is_assigned, is_assignment, is_provided, sym, ◌∙◌}
use Rattle.symres_decisions.proofs.OneName.{assigned_only, other_only}
use Rattle.symres_decisions.proofs.single.given_case.Goals as goal

pub returns-then-is_assigned : goal.returns-then-is_assigned
returns-then-is_assigned c =
    assigned_only (is_assigned c.args.script.now c.args.name.now) (is_provided c.args.script.now c.args.name.now)
    (ap is_assignment (sym c.given.ensures) ∙ sym c.is_assigned.ensures ∙ c.if-is_assigned.true)

pub returns-else-is_assigned : goal.returns-else-is_assigned
returns-else-is_assigned c =
    other_only (is_assigned c.args.script.now c.args.name.now) (is_provided c.args.script.now c.args.name.now)
    (ap is_assignment (sym c.given.ensures) ∙ sym c.is_assigned.ensures ∙ c.if-is_assigned.false)
