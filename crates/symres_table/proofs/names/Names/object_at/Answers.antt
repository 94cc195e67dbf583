use Rattle.symres_table.proofs.ByPlace.{key_of_place}
use Rattle.symres_table.proofs.names.Names.object_at.Goals as goal

pub returns : goal.returns
returns c = rw (← c.self.view_is)
    (key_of_place c.self.inside.known.slots c.self.inside.objects.objects c.args.place.0 c.key_at.result
    c.key_at.ensures)
