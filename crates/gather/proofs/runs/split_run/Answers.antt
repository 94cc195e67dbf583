use Rattle.gather.proofs.Common.{ap, drop, drop_min, take, take_min, ◌∙◌}
use Rattle.gather.proofs.runs.split_run.Goals as goal

pub returns-clause-own : goal.returns-clause-own
returns-clause-own c =
    c.split_at.ensures.front
    ∙ (ap (λ n. take n c.args.sections.now) c.min.ensures ∙ take_min c.args.run.count c.args.sections.now)

pub returns-clause-later : goal.returns-clause-later
returns-clause-later c =
    c.split_at.ensures.back
    ∙ (ap (λ n. drop n c.args.sections.now) c.min.ensures ∙ drop_min c.args.run.count c.args.sections.now)
