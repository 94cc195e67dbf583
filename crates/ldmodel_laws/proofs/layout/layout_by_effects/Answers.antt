use Rattle.ldmodel_laws.proofs.Traced.{traced}
use Rattle.ldmodel_laws.proofs.layout.layout_by_effects.Goals as goal

pub returns : goal.returns
returns c = traced
