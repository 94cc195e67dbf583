use Rattle.symres_table.proofs.Common.{All, Declared, Entered, HasRow, IsObjectTable, IsTable, ObjectsState, Vec, []}
use Rattle.symres_table.proofs.Common.{ap, arith, drop, drop_all, eqb, false, insert, length, length-map, subst, sym}
use Rattle.symres_table.proofs.Common.{take, take-append-drop, vec_capacity, ◌++◌, ◌∙◌, ◌≡◌, ◌≤◌}
use Rattle.std.proofs.Common.{Global}
use Rattle.symres_table.proofs.Placing.{split_at, kept_after, rooms, places_fit, written}
use Rattle.symres_table.proofs.objects.Objects.enter.Goals as goal

pub make_gap-requires-clause-within : goal.make_gap-requires-clause-within
make_gap-requires-clause-within c =
    let a = c.self.inside in
    rw c.deref_mut.ensures.value
    (places_fit a.places.items a.order.items c.len-count.result c.self.invariant.numbered
    (omega (arith, c.len-count.ensures, a.order.ok.0)))

pub make_gap-requires-clause-fits : goal.make_gap-requires-clause-fits
make_gap-requires-clause-fits c =
    let a = c.self.inside in
    rw c.deref_mut.ensures.value
    (places_fit a.places.items a.order.items 18446744073709551615 c.self.invariant.numbered
    (omega (arith, a.order.ok.0, a.order.ok.1)))

pub invariant_of-self : goal.invariant_of-self
invariant_of-self c =
    let a = c.self.inside in
    let os = a.order.items in
    let v = c.self.view_is in
    let k : IsObjectTable os a.rows.items a.places.items = c.self.invariant in
    let new : Entered =
    record { key = c.args.key.0; symbols = c.args.symbols.items; room = vec_capacity c.args.symbols } in
    let at : c.args.at ≤ length os = rw (← v) at c.requires.at in
    let fresh : All (λ (o : Entered). eqb o.key c.args.key.0 ≡ false) os = rw (← v) at c.requires.fresh in
    let known : All (HasRow (length a.rows.items)) c.args.symbols.items = λ j x l s.
    omega (
      arith,
      c.requires.room.known j x l s,
      ap (λ (s : ObjectsState). length s.room) v,
      length-map a.rows.items (λ (row : Vec Declared Global). vec_capacity row),
    ) in
    let whole : IsTable a.rows.items (take c.args.at os ++ drop c.args.at os) =
    subst (IsTable a.rows.items) (sym (take-append-drop c.args.at os)) k.table in
    let last : c.len-count.result ≤ c.args.at → drop c.args.at os ≡ [] =
    λ le. drop_all c.args.at os (omega (arith, le, c.len-count.ensures, a.order.ok.0)) in
    let added = c.add_all.ensures.table (take c.args.at os) (drop c.args.at os)
    (rw c.deref.ensures.value (split_at a.places.items c.args.at c.args.key.0 os k.numbered at fresh)) last whole
    (vec_capacity c.args.symbols) in
    let items = rw c.unwrap-2.ensures at c.insert-2.ensures.items in
    let places = rw c.unwrap.ensures at c.insert.ensures.items in
    let table : IsTable c.add_all.new.table.items (insert os c.args.at new) = rw c.deref-2.ensures.value at added in
    let written' = written a.places.len c.make_gap.new.places a.places.items
    (omega (arith, c.make_gap.ensures.long, ap length c.deref_mut.ensures.value, a.places.ok.0))
    (omega (arith, a.places.ok.0)) in
    rw (items, places, written')
    (kept_after a.places.items c.make_gap.new.places c.count_below-number.result c.args.at new os a.rows.items
    c.add_all.new.table.items k
    (rw c.deref_mut.ensures.value at c.make_gap.ensures) (rw c.deref-3.ensures.value at c.count_below-number.ensures) at
    fresh known c.add_all.ensures.grows.long table)

pub returns-clause-room : goal.returns-clause-room
returns-clause-room c =
    rooms c.self.inside.rows.items c.add_all.new.table.items c.add_all.ensures.grows.long (λ k d l.
    (c.add_all.ensures.grows.row k d l).0)
    ∙ ap (λ (s : ObjectsState). s.room) c.self.view_is
