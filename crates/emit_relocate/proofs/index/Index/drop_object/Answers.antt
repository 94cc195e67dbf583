use Rattle.emit_relocate.proofs.Common.{[], ap, arith, cleared, length, length-map, map, sym, ◌<◌, ◌∙◌}
use Rattle.emit_relocate.specs.Index.{slot}
use Rattle.emit_relocate.proofs.Places.{bucket_room, dropped_sites, dropped_sound, mapped_at, mapped_set}
use Rattle.emit_relocate.proofs.Places.{no_less_room, nothing_dropped}
use Rattle.emit_relocate.proofs.index.Index.drop_object.Goals as goal

pub returns-then-object-len-clause-sites : goal.returns-then-object-len-clause-sites
returns-then-object-len-clause-sites c =
    rw (← c.self.view_is)
    (nothing_dropped c.self.inside.targets.items (map (λ v. v.items) c.self.inside.objects.items) c.args.object
    c.self.invariant
    (omega (arith, length-map c.self.inside.objects.items (λ v. v.items), c.len.ensures, c.if-object-len.true)))

pub invariant_of-self : goal.invariant_of-self
invariant_of-self c =
    let low : c.args.object.0 < length c.self.inside.objects.items =
    omega (arith, c.len.ensures, c.if-object-len.false) in
    let spots = c.deref.ensures.value
    ∙ sym (mapped_at (λ v. v.items) c.self.inside.objects.items c.args.object.0 c.index.result.now [] low
    c.index.ensures) in
    rw (mapped_set (λ v. v.items) c.self.inside.objects.items c.args.object.0 c.clear.new.self, c.clear.ensures.items)
    (dropped_sound c.self.inside.targets.items c.remove_all.new.targets.items
    (map (λ v. v.items) c.self.inside.objects.items)
    c.args.object.0 c.self.invariant
    (λ t k. c.remove_all.ensures.slots t k ∙ ap (λ ss. cleared t k ss (slot c.self.inside.targets.items t k)) spots))

pub returns-clause-sites : goal.returns-clause-sites
returns-clause-sites c =
    let low : c.args.object.0 < length c.self.inside.objects.items =
    omega (arith, c.len.ensures, c.if-object-len.false) in
    let spots = c.deref.ensures.value
    ∙ sym (mapped_at (λ v. v.items) c.self.inside.objects.items c.args.object.0 c.index.result.now [] low
    c.index.ensures) in
    rw (← c.self.view_is)
    (dropped_sites c.self.inside.targets.items c.remove_all.new.targets.items
    (map (λ v. v.items) c.self.inside.objects.items)
    c.args.object c.self.invariant c.remove_all.ensures.lengths
    (λ t k. c.remove_all.ensures.slots t k ∙ ap (λ ss. cleared t k ss (slot c.self.inside.targets.items t k)) spots))

pub returns-clause-rooms : goal.returns-clause-rooms
returns-clause-rooms c =
    let low : c.args.object.0 < length c.self.inside.objects.items =
    omega (arith, c.len.ensures, c.if-object-len.false) in
    rw (← c.self.view_is)
    (λ o sites h. record {
      of_targets = λ t.
          omega (
            arith,
            h.of_targets t,
            bucket_room c.self.inside.targets.items t,
            bucket_room c.remove_all.new.targets.items t,
            c.remove_all.ensures.rooms t,
          );
      of_object =
          omega (
            arith,
            h.of_object,
            no_less_room c.self.inside.objects.items c.args.object.0 o.0 c.index_mut.result.now c.clear.new.self
                low c.index_mut.ensures.value
                (omega (arith, c.clear.ensures.capacity, c.clear.ensures.len)),
          );
    })
