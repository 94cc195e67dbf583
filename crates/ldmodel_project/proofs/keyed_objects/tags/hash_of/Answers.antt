use Rattle.ldmodel_project.proofs.Common.{ap, fold, hash_of, mixed, take_all, ◌∙◌}
use Rattle.ldmodel_project.proofs.keyed_objects.tags.hash_of.Goals as goal

pub returns : goal.returns
unfolding hash_of
returns c =
    c.loop-byte.invariant
    ∙ ap (fold mixed 0) (take_all c.loop-byte.byte-index c.args.name.now c.loop-byte-test.false)
