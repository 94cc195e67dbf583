use Rattle.ldmodel_project.proofs.Common.{mixed, refl}
use Rattle.ldmodel_project.proofs.keyed_objects.tags.mixed.Goals as goal

pub returns : goal.returns
unfolding mixed
returns c = refl
