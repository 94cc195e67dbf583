use Rattle.emit_relocate.proofs.Common.{Bucket, [], arith, length, length-map, map, refl, room_of, values, vec_capacity}
use Rattle.emit_relocate.proofs.Common.{vec_len, ◌-◌, ◌<◌}
use Rattle.emit_relocate.proofs.Kept.{added_sound, filled_bucket, in_range}
use Rattle.emit_relocate.proofs.Places.{mapped_at, mapped_set, written_at, written_elsewhere}
use Rattle.emit_relocate.proofs.index.Index.add_one.Goals as goal

pub invariant_of-self : goal.invariant_of-self
invariant_of-self c =
    let low = in_range room_of c.self.inside.targets.items c.args.site.target.0
    (rw (← c.self.view_is) at c.requires.target) in
    let there = in_range (λ v. vec_capacity v - vec_len v) c.self.inside.objects.items c.args.object.0
    (rw (← c.self.view_is) at c.requires.object) in
    let many : c.args.object.0 < length (map (λ v. v.items) c.self.inside.objects.items) =
    omega (arith, there, length-map c.self.inside.objects.items (λ v. v.items)) in
    let known = mapped_at (λ v. v.items) c.self.inside.objects.items c.args.object.0 c.index_mut-2.result.now [] there
    c.index_mut-2.ensures.value in
    rw (
      mapped_set (λ v. v.items) c.self.inside.objects.items c.args.object.0 c.push.new.self,
      rw c.unwrap.ensures at c.push.ensures.items,
      ← known,
    )
    (added_sound c.self.inside.targets.items (map (λ v. v.items) c.self.inside.objects.items) c.args.object.0
    c.args.site.target.0
    c.add-place.result low many c.index_mut.result.now c.add-place.new.self c.index_mut.ensures.value _ refl
    c.add-place.ensures.free
    c.add-place.ensures.sites c.self.invariant)

pub returns-clause-added : goal.returns-clause-added
returns-clause-added c =
    let low = in_range room_of c.self.inside.targets.items c.args.site.target.0
    (rw (← c.self.view_is) at c.requires.target) in
    rw (
      ← c.self.view_is,
      mapped_at (λ (b : Bucket). values b.sites) c.self.inside.targets.items c.args.site.target.0
          c.index_mut.result.now [] low c.index_mut.ensures.value,
      written_at (λ (b : Bucket). values b.sites) c.self.inside.targets.items c.args.site.target.0
          c.add-place.new.self [] low,
    )
    (filled_bucket c.index_mut.result.now c.add-place.new.self c.add-place.result _ c.add-place.ensures.free
    c.add-place.ensures.sites)

pub returns-clause-others : goal.returns-clause-others
returns-clause-others c =
    λ t differs. rw (← c.self.view_is)
    (written_elsewhere (λ (b : Bucket). values b.sites) c.self.inside.targets.items c.args.site.target.0 t
    c.add-place.new.self [] differs)

pub returns-clause-other_rooms : goal.returns-clause-other_rooms
returns-clause-other_rooms c =
    λ t differs. rw (← c.self.view_is)
    (written_elsewhere room_of c.self.inside.targets.items c.args.site.target.0 t c.add-place.new.self 0 differs)

pub returns-clause-target_room : goal.returns-clause-target_room
returns-clause-target_room c =
    let low = in_range room_of c.self.inside.targets.items c.args.site.target.0
    (rw (← c.self.view_is) at c.requires.target) in
    let room = c.add-place.ensures.capacity in
    let len = c.add-place.ensures.len in
    rw (
      ← c.self.view_is,
      mapped_at room_of c.self.inside.targets.items c.args.site.target.0 c.index_mut.result.now 0
          low c.index_mut.ensures.value,
      written_at room_of c.self.inside.targets.items c.args.site.target.0 c.add-place.new.self 0 low,
    )
    (omega (arith, room, len))

pub returns-clause-object_room : goal.returns-clause-object_room
returns-clause-object_room c =
    let low = in_range (λ v. vec_capacity v - vec_len v) c.self.inside.objects.items c.args.object.0
    (rw (← c.self.view_is) at c.requires.object) in
    let room = c.push.ensures.capacity in
    let len = rw c.unwrap.ensures at c.push.ensures.len in
    rw (
      ← c.self.view_is,
      mapped_at (λ v. vec_capacity v - vec_len v) c.self.inside.objects.items c.args.object.0
          c.index_mut-2.result.now 0 low c.index_mut-2.ensures.value,
      written_at (λ v. vec_capacity v - vec_len v) c.self.inside.objects.items c.args.object.0 c.push.new.self 0 low,
    )
    (omega (arith, room, len))
