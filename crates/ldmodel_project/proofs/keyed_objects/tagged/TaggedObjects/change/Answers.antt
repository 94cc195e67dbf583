use Rattle.ldmodel_project.proofs.Tagged.{tagged_next}
use Rattle.ldmodel_project.proofs.keyed_objects.tagged.TaggedObjects.change.Goals as goal

pub invariant_of-self : goal.invariant_of-self
invariant_of-self c =
    tagged_next c.self.inside.tags c.note_put.new.tags c.self.inside.slab c.change.new.objects c.args.step
    c.self.invariant c.note_put.ensures.noted c.note_put.ensures.kept c.change.ensures
