-- The bytes of the names so far, if they are few enough.
use Rattle.relink.proofs.Common.{NamedObject, length, shown_inputs, sum_by, take, ◌<◌, ◌^◌, ◌≡◌}
use Rattle.relink.proofs.name_list.name_bytes.Given as goal

abbrev pub invariant-loop-input : goal.invariant-loop-input
invariant-loop-input l =
    l.bytes < 2 ^ 63 → l.bytes ≡ sum_by (λ (o : NamedObject). length o.name)
    (shown_inputs (take l.input-index l.inputs))
