use Rattle.symres_table.proofs.Common.{All, Declared, HasRow, IsObjectTable, ObjectsState, Vec, ap, arith, length}
use Rattle.symres_table.proofs.Common.{length-map, vec_capacity}
use Rattle.std.proofs.Common.{Global}
use Rattle.symres_table.proofs.Growing.{kept_grown, room_grown, all_ok, can_enter}
use Rattle.symres_table.proofs.objects.Objects.reserve.Goals as goal

pub invariant_of-self : goal.invariant_of-self
invariant_of-self c =
    let a = c.self.inside in
    let e = c.reserve_fields.ensures in
    rw (e.order, e.places)
    (kept_grown a.order.items a.rows.items c.reserve_fields.new.rows.items a.places.items c.self.invariant e.rows)

pub returns-clause-ok : goal.returns-clause-ok
returns-clause-ok c =
    let a = c.self.inside in
    let e = c.reserve_fields.ensures in
    let rows' = c.reserve_fields.new.rows.items in
    let known : All (HasRow (length rows')) c.args.symbols.now = λ j x l v. let lt = c.requires.known j x l v in
    omega (
      arith,
      ap (λ (s : ObjectsState). length s.room) c.self.view_is,
      length-map a.rows.items (λ (v : Vec Declared Global). vec_capacity v),
      e.rows.long,
    ) in
    let kept : IsObjectTable a.order.items rows' a.places.items =
    kept_grown a.order.items a.rows.items rows' a.places.items c.self.invariant e.rows in
    all_ok c.reserve_fields.result e.room e.order_room e.place_room (λ h o p.
    rw e.order (can_enter a.order.items rows' a.places.items _ _ c.args.symbols.now kept (λ v. omega (arith, v.ok.0)) h
    known (omega (arith, o)) (omega (arith, p))))

pub returns-clause-same : goal.returns-clause-same
returns-clause-same c =
    let a = c.self.inside in
    let e = c.reserve_fields.ensures in
    let rows = a.rows.items in
    let rows' = c.reserve_fields.new.rows.items in
    rw (← c.self.view_is) record {
      objects = e.order;
      rows = omega (
        arith,
        e.rows.long,
        length-map rows (λ (v : Vec Declared Global). vec_capacity v),
        length-map rows' (λ (v : Vec Declared Global). vec_capacity v),
      );
      room = room_grown rows rows' e.rows;
      order = omega (arith, ap length e.order, a.order.ok.0, c.reserve_fields.new.order.ok.0, e.order_grows);
      places = omega (arith, ap length e.places, a.places.ok.0, c.reserve_fields.new.places.ok.0, e.places_grow);
    }
