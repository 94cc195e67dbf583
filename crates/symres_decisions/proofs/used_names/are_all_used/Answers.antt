use Rattle.symres_decisions.proofs.Common.{eqb-true, ◌∙◌}
use Rattle.symres_decisions.proofs.Used.{used_named}
use Rattle.symres_decisions.proofs.used_names.are_all_used.Goals as goal

pub returns : goal.returns
returns c = λ sure.
    used_named c.args.names.now c.args.used c.known.ensures.listing
    (eqb-true c.args.used c.known.result sure ∙ c.known.ensures.len) c.requires
