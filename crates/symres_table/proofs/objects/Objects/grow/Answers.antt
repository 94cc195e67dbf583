use Rattle.symres_table.proofs.Common.{Declared, Vec, arith, length-map, refl, vec_capacity}
use Rattle.std.proofs.Common.{Global}
use Rattle.symres_table.proofs.Growing.{kept_grown, room_grown}
use Rattle.symres_table.proofs.objects.Objects.grow.Goals as goal

pub invariant_of-self : goal.invariant_of-self
invariant_of-self c =
    kept_grown c.self.inside.order.items c.self.inside.rows.items c.grow_to.new.table.items c.self.inside.places.items
    c.self.invariant c.grow_to.ensures.same

pub returns-clause-same : goal.returns-clause-same
returns-clause-same c =
    let a = c.self.inside in
    let rows = a.rows.items in
    let rows' = c.grow_to.new.table.items in
    rw (← c.self.view_is) record {
      objects = refl;
      rows = omega (
        arith,
        c.grow_to.ensures.same.long,
        length-map rows (λ (v : Vec Declared Global). vec_capacity v),
        length-map rows' (λ (v : Vec Declared Global). vec_capacity v),
      );
      room = room_grown rows rows' c.grow_to.ensures.same;
      order = omega arith;
      places = omega arith;
    }
