use Rattle.emit_relocate.proofs.Places.{bucket_room, same_values}
use Rattle.emit_relocate.proofs.index.Index.reserve.Goals as goal

pub returns-in_err-reserve_targets-clause-same : goal.returns-in_err-reserve_targets-clause-same
returns-in_err-reserve_targets-clause-same c =
    rw (← c.self.view_is)
    (same_values c.self.inside.targets.items c.reserve_targets.new.targets.items
    c.in_err-reserve_targets.ensures.slots)

pub returns-in_err-reserve_object-clause-same : goal.returns-in_err-reserve_object-clause-same
returns-in_err-reserve_object-clause-same c =
    rw (← c.self.view_is)
    (same_values c.self.inside.targets.items c.reserve_targets.new.targets.items c.reserve_targets.ensures.slots)

pub returns-clause-same : goal.returns-clause-same
returns-clause-same c =
    rw (← c.self.view_is)
    (same_values c.self.inside.targets.items c.reserve_targets.new.targets.items c.reserve_targets.ensures.slots)

pub returns-clause-room : goal.returns-clause-room
returns-clause-room c = record {
  of_targets = λ t. rw (bucket_room c.reserve_targets.new.targets.items t) (c.in_ok-reserve_targets.ensures.room t);
  of_object = c.in_ok-reserve_object.ensures.room;
}
