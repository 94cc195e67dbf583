use Rattle.symres_decisions.proofs.Common.{Case, List, ObjectKey, Option, ap, case_at, ◌∙◌}
use Rattle.symres_decisions.proofs.MakingRoom.{cleared_if, kept_if}
use Rattle.symres_decisions.proofs.room.clear_if_unnamed.Goals as goal

pub returns-in-Some-clause-at : goal.returns-in-Some-clause-at
returns-in-Some-clause-at c = λ k.
    kept_if c.args.key.0 k c.args.names.now.names c.args.cases.now c.in-Some._name.now c.in-Some.ensures

pub returns-in-None-clause-at : goal.returns-in-None-clause-at
returns-in-None-clause-at c = λ k.
    ap (λ (cs : List (Option (Case ObjectKey))). case_at cs k) c.set.ensures
    ∙ cleared_if c.args.key.0 k c.args.names.now.names c.args.cases.now c.requires c.in-None.ensures
