-- The names so far, and the room that is left for the others.
use Rattle.relink.proofs.Common.{HasRoomFor, NamedObject, drop, map, shown_inputs, take, ◌≡◌}
use Rattle.relink.proofs.name_list.names_in_room.Given as goal

abbrev pub invariant-loop-input : goal.invariant-loop-input
invariant-loop-input l = record {
  names : l.names.names ≡ map (λ (o : NamedObject). o.name) (shown_inputs (take l.input-index l.inputs));
  room : HasRoomFor (shown_inputs (drop l.input-index l.inputs)) l.names;
}
