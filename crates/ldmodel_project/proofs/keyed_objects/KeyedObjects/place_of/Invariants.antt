use Rattle.ldmodel_project.proofs.Common.{bytes_eq, false, get_or, named_at, ℕ, ◌<◌, ◌≡◌}
use Rattle.ldmodel_project.proofs.keyed_objects.KeyedObjects.place_of.Given as goal

-- no object so far has the name
abbrev pub invariant-loop-i : goal.invariant-loop-i
invariant-loop-i l = (k : ℕ) → k < l.i
    → bytes_eq (named_at l.self-inside.objects (get_or l.self-inside.order.items k 0)).name l.name ≡ false
