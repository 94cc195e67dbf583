use Rattle.ldmodel_laws.proofs.Outcomes as outcomes
use Rattle.ldmodel_laws.proofs.edits.one_outcome.Goals as goal

pub returns : goal.returns
returns c = outcomes.one_outcome c.one_cut.ensures c.one_tree.ensures
