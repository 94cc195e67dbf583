use Rattle.emit_relocate.proofs.Common.{[], ap, arith, get_or, vec_capacity, vec_len, ◌-◌, ◌∙◌}
use Rattle.emit_relocate.proofs.Places.{same_part, written_at}
use Rattle.emit_relocate.proofs.index.reserve_object.Goals as goal

pub returns-clause-spots : goal.returns-clause-spots
returns-clause-spots c =
    λ o. ap (λ l. get_or l o [])
    (same_part (λ v. v.items) c.grow_objects.new.objects.items c.args.object c.index_mut.result.now c.reserve.new.list
    []
    c.in_ok-grow_objects.ensures.there c.index_mut.ensures.value c.reserve.ensures.items)
    ∙ c.in_ok-grow_objects.ensures.spots o

pub returns-clause-room : goal.returns-clause-room
returns-clause-room c =
    let room = c.in_ok-reserve.ensures.ok in
    let len = c.reserve.ensures.len in
    rw (written_at (λ v. vec_capacity v - vec_len v) c.grow_objects.new.objects.items c.args.object c.reserve.new.list
    0 c.in_ok-grow_objects.ensures.there)
    (omega (arith, room, len))

pub returns-in_err-reserve-clause-spots : goal.returns-in_err-reserve-clause-spots
returns-in_err-reserve-clause-spots c =
    λ o. ap (λ l. get_or l o [])
    (same_part (λ v. v.items) c.grow_objects.new.objects.items c.args.object c.index_mut.result.now c.reserve.new.list
    []
    c.in_ok-grow_objects.ensures.there c.index_mut.ensures.value c.reserve.ensures.items)
    ∙ c.in_ok-grow_objects.ensures.spots o
