use Rattle.ldmodel_project.proofs.Common.{map, named_at, shown_inputs, take, ◌≡◌}
use Rattle.ldmodel_project.proofs.keyed_objects.KeyedObjects.inputs.Given as goal

-- the objects so far
abbrev pub invariant-loop-key : goal.invariant-loop-key
invariant-loop-key l = shown_inputs l.inputs.items ≡ map (named_at l.self-inside.objects)
    (take l.key-index l.self-inside.order.items)
