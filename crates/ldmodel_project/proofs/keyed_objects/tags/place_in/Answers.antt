use Rattle.ldmodel_project.proofs.Common.{ap, ◌%◌, ◌/◌}
use Rattle.ldmodel_project.specs.Tags.{place_in}
use Rattle.ldmodel_project.proofs.keyed_objects.tags.place_in.Goals as goal

pub returns-clause-value : goal.returns-clause-value
unfolding place_in
returns-clause-value c = ap (λ h. h / 4294967296 % c.args.count) c.hash_of.ensures
