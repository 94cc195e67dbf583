use Rattle.symres_table.proofs.Common.{All, AreMoved, Entered, HasKey, HasRow, HasSymbols, IsNumbered, IsTable, List}
use Rattle.symres_table.proofs.Common.{Numbered, ObjectsState, PlacedKey, ap, arith, down, get_or, get_or_default}
use Rattle.symres_table.proofs.Common.{length, remove, subst, sym, vec_capacity, vec_len, ℕ, ◌-◌, ◌∙◌, ◌≡◌}
use Rattle.symres_table.specs.Numbers.{without}
use Rattle.symres_table.proofs.Placing.{Here, here_at, At, at_number, numbered_without, kept_without, rooms, without_is}
use Rattle.symres_table.proofs.Placing.{has_symbols, written}
use Rattle.symres_table.proofs.Growing.{again}
use Rattle.symres_table.proofs.objects.Objects.withdraw.Goals as goal

pub remove-place-requires : goal.remove-place-requires
remove-place-requires c =
    let a = c.self.inside in
    let h : HasKey c.args.key.0 a.order.items = rw (← c.self.view_is) at c.requires in
    let f : Here a.places.items a.order.items c.args.key.0 h.0 =
    here_at a.places.items a.order.items c.args.key.0 c.self.invariant.numbered h in
    let t : At a.places.items c.args.key.0 c.count_below-number.result h.0 =
    at_number a.places.items c.args.key.0 c.count_below-number.result h.0 c.self.invariant.numbered.sorted
    (rw c.deref.ensures.value at c.count_below-number.ensures) f.place_is in
    omega (arith, t.within, a.places.ok.0)

pub remove-placed-requires : goal.remove-placed-requires
remove-placed-requires c =
    let a = c.self.inside in
    let h : HasKey c.args.key.0 a.order.items = rw (← c.self.view_is) at c.requires in
    let f : Here a.places.items a.order.items c.args.key.0 h.0 =
    here_at a.places.items a.order.items c.args.key.0 c.self.invariant.numbered h in
    let t : At a.places.items c.args.key.0 c.count_below-number.result h.0 =
    at_number a.places.items c.args.key.0 c.count_below-number.result h.0 c.self.invariant.numbered.sorted
    (rw c.deref.ensures.value at c.count_below-number.ensures) f.place_is in
    let p = c.remove-place.result in
    let at : p.at ≡ h.0 = ap (λ (q : PlacedKey). q.at) c.remove-place.ensures.value ∙ t.at_is p in
    omega (arith, f.within, at, a.order.ok.0)

pub remove_all-requires : goal.remove_all-requires
remove_all-requires c =
    let a = c.self.inside in
    let h : HasKey c.args.key.0 a.order.items = rw (← c.self.view_is) at c.requires in
    let f : Here a.places.items a.order.items c.args.key.0 h.0 =
    here_at a.places.items a.order.items c.args.key.0 c.self.invariant.numbered h in
    let t : At a.places.items c.args.key.0 c.count_below-number.result h.0 =
    at_number a.places.items c.args.key.0 c.count_below-number.result h.0 c.self.invariant.numbered.sorted
    (rw c.deref.ensures.value at c.count_below-number.ensures) f.place_is in
    let p = c.remove-place.result in
    let at : p.at ≡ h.0 = ap (λ (q : PlacedKey). q.at) c.remove-place.ensures.value ∙ t.at_is p in
    let r = c.remove-placed.result in
    let here : r ≡ get_or a.order.items h.0 r = c.remove-placed.ensures.value ∙ ap (λ j. get_or a.order.items j r) at in
    let left : c.remove-placed.new.self.items ≡ remove a.order.items h.0 = c.remove-placed.ensures.items
    ∙ ap (remove a.order.items) at in
    let k : All (HasRow (length a.rows.items)) (get_or a.order.items h.0 r).symbols =
    c.self.invariant.known h.0 r f.within in
    let e : c.deref-2.result.now ≡ r.symbols = c.deref-2.ensures.value
    ∙ ap (λ (o : Entered). o.symbols) c.placed.view_is in
    record {
      known = subst (All (HasRow (length a.rows.items))) (sym e)
          (subst (λ (o : Entered). All (HasRow (length a.rows.items)) o.symbols) (sym here) k);
    }

pub invariant_of-self : goal.invariant_of-self
invariant_of-self c =
    let a = c.self.inside in
    let h : HasKey c.args.key.0 a.order.items = rw (← c.self.view_is) at c.requires in
    let f : Here a.places.items a.order.items c.args.key.0 h.0 =
    here_at a.places.items a.order.items c.args.key.0 c.self.invariant.numbered h in
    let t : At a.places.items c.args.key.0 c.count_below-number.result h.0 =
    at_number a.places.items c.args.key.0 c.count_below-number.result h.0 c.self.invariant.numbered.sorted
    (rw c.deref.ensures.value at c.count_below-number.ensures) f.place_is in
    let p = c.remove-place.result in
    let at : p.at ≡ h.0 = ap (λ (q : PlacedKey). q.at) c.remove-place.ensures.value ∙ t.at_is p in
    let r = c.remove-placed.result in
    let here : r ≡ get_or a.order.items h.0 r = c.remove-placed.ensures.value ∙ ap (λ j. get_or a.order.items j r) at in
    let left : c.remove-placed.new.self.items ≡ remove a.order.items h.0 = c.remove-placed.ensures.items
    ∙ ap (remove a.order.items) at in
    let s = has_symbols a.places.items a.order.items c.args.key.0 h.0 r c.self.invariant.numbered f here in
    let e : c.deref-2.result.now ≡ r.symbols = c.deref-2.ensures.value
    ∙ ap (λ (o : Entered). o.symbols) c.placed.view_is in
    let table : IsTable c.remove_all.new.table.items (without c.args.key.0 a.order.items) =
    c.remove_all.ensures.table a.order.items (subst (λ ss. HasSymbols c.args.key.0 ss a.order.items) (sym e) s)
    c.self.invariant.table in
    let moved : AreMoved (down h.0) c.remove-place.new.self.items c.move_down.new.places =
    subst (λ j. AreMoved (down j) c.remove-place.new.self.items c.move_down.new.places) at
    (rw c.deref_mut.ensures.value at c.move_down.ensures) in
    let numbered : IsNumbered c.move_down.new.places (remove a.order.items h.0) =
    numbered_without a.places.items c.remove-place.new.self.items c.move_down.new.places
    c.count_below-number.result c.args.key.0 h.0 p a.order.items c.self.invariant.numbered f t.within
    c.remove-place.ensures.value (ap (λ (q : PlacedKey). q.key.0) c.remove-place.ensures.value
    ∙ t.key_is p) c.remove-place.ensures.items moved in
    let rest = c.remove-place.new.self in
    let written' = written rest.len c.move_down.new.places rest.items
    (omega (arith, c.move_down.ensures.long, ap length c.deref_mut.ensures.value, rest.ok.0))
    (omega (arith, rest.ok.0)) in
    rw (left, written') (kept_without a.places.items c.move_down.new.places a.order.items c.args.key.0 h.0 a.rows.items
    c.remove_all.new.table.items c.self.invariant f c.remove_all.ensures.room.long table numbered)

pub returns-clause-objects : goal.returns-clause-objects
returns-clause-objects c =
    let a = c.self.inside in
    let h : HasKey c.args.key.0 a.order.items = rw (← c.self.view_is) at c.requires in
    let f : Here a.places.items a.order.items c.args.key.0 h.0 =
    here_at a.places.items a.order.items c.args.key.0 c.self.invariant.numbered h in
    let t : At a.places.items c.args.key.0 c.count_below-number.result h.0 =
    at_number a.places.items c.args.key.0 c.count_below-number.result h.0 c.self.invariant.numbered.sorted
    (rw c.deref.ensures.value at c.count_below-number.ensures) f.place_is in
    let p = c.remove-place.result in
    let at : p.at ≡ h.0 = ap (λ (q : PlacedKey). q.at) c.remove-place.ensures.value ∙ t.at_is p in
    let r = c.remove-placed.result in
    let here : r ≡ get_or a.order.items h.0 r = c.remove-placed.ensures.value ∙ ap (λ j. get_or a.order.items j r) at in
    let left : c.remove-placed.new.self.items ≡ remove a.order.items h.0 = c.remove-placed.ensures.items
    ∙ ap (remove a.order.items) at in
    left ∙ sym (without_is a.places.items a.order.items c.args.key.0 h.0 c.self.invariant.numbered f)
    ∙ ap (λ (s : ObjectsState). without c.args.key.0 s.objects) c.self.view_is

pub returns-clause-room : goal.returns-clause-room
returns-clause-room c =
    rooms c.self.inside.rows.items c.remove_all.new.table.items c.remove_all.ensures.room.long
    c.remove_all.ensures.room.row
    ∙ ap (λ (s : ObjectsState). s.room) c.self.view_is

abbrev make : ℕ → List Numbered → ℕ → Entered
make k ss n = record { key = k; symbols = ss; room = n }

pub returns-clause-leaves : goal.returns-clause-leaves
returns-clause-leaves c =
    let a = c.self.inside in
    let h : HasKey c.args.key.0 a.order.items = rw (← c.self.view_is) at c.requires in
    let f : Here a.places.items a.order.items c.args.key.0 h.0 =
    here_at a.places.items a.order.items c.args.key.0 c.self.invariant.numbered h in
    let t : At a.places.items c.args.key.0 c.count_below-number.result h.0 =
    at_number a.places.items c.args.key.0 c.count_below-number.result h.0 c.self.invariant.numbered.sorted
    (rw c.deref.ensures.value at c.count_below-number.ensures) f.place_is in
    let p = c.remove-place.result in
    let at : p.at ≡ h.0 = ap (λ (q : PlacedKey). q.at) c.remove-place.ensures.value ∙ t.at_is p in
    let r = c.remove-placed.result in
    let here : r ≡ get_or a.order.items h.0 r = c.remove-placed.ensures.value ∙ ap (λ j. get_or a.order.items j r) at in
    let left : c.remove-placed.new.self.items ≡ remove a.order.items h.0 = c.remove-placed.ensures.items
    ∙ ap (remove a.order.items) at in
    let q = c.placed.inside in
    let key : q.key.0 ≡ c.args.key.0 = ap (λ (o : Entered). o.key) (c.placed.view_is ∙ here) ∙ f.key_is r in
    rw (← c.self.view_is) record {
      at = h.0;
      within = f.within;
      is = λ d. get_or_default a.order.items h.0 d r f.within ∙ sym here ∙ sym c.placed.view_is
          ∙ ap (λ k. make k q.symbols.items (vec_capacity q.symbols)) key;
      rest = left;
    }

pub returns-clause-symbols : goal.returns-clause-symbols
returns-clause-symbols c =
    let a = c.self.inside in
    let h : HasKey c.args.key.0 a.order.items = rw (← c.self.view_is) at c.requires in
    let f : Here a.places.items a.order.items c.args.key.0 h.0 =
    here_at a.places.items a.order.items c.args.key.0 c.self.invariant.numbered h in
    let t : At a.places.items c.args.key.0 c.count_below-number.result h.0 =
    at_number a.places.items c.args.key.0 c.count_below-number.result h.0 c.self.invariant.numbered.sorted
    (rw c.deref.ensures.value at c.count_below-number.ensures) f.place_is in
    let p = c.remove-place.result in
    let at : p.at ≡ h.0 = ap (λ (q : PlacedKey). q.at) c.remove-place.ensures.value ∙ t.at_is p in
    let r = c.remove-placed.result in
    let here : r ≡ get_or a.order.items h.0 r = c.remove-placed.ensures.value ∙ ap (λ j. get_or a.order.items j r) at in
    let left : c.remove-placed.new.self.items ≡ remove a.order.items h.0 = c.remove-placed.ensures.items
    ∙ ap (remove a.order.items) at in
    let s = has_symbols a.places.items a.order.items c.args.key.0 h.0 r c.self.invariant.numbered f here in
    let e : c.placed.inside.symbols.items ≡ r.symbols = ap (λ (o : Entered). o.symbols) c.placed.view_is in
    rw (← c.self.view_is) (subst (λ ss. HasSymbols c.args.key.0 ss a.order.items) (sym e) s)

pub returns-clause-again : goal.returns-clause-again
returns-clause-again c =
    let a = c.self.inside in
    let h : HasKey c.args.key.0 a.order.items = rw (← c.self.view_is) at c.requires in
    let f : Here a.places.items a.order.items c.args.key.0 h.0 =
    here_at a.places.items a.order.items c.args.key.0 c.self.invariant.numbered h in
    let t : At a.places.items c.args.key.0 c.count_below-number.result h.0 =
    at_number a.places.items c.args.key.0 c.count_below-number.result h.0 c.self.invariant.numbered.sorted
    (rw c.deref.ensures.value at c.count_below-number.ensures) f.place_is in
    let p = c.remove-place.result in
    let at : p.at ≡ h.0 = ap (λ (q : PlacedKey). q.at) c.remove-place.ensures.value ∙ t.at_is p in
    let r = c.remove-placed.result in
    let here : r ≡ get_or a.order.items h.0 r = c.remove-placed.ensures.value ∙ ap (λ j. get_or a.order.items j r) at in
    let left : c.remove-placed.new.self.items ≡ remove a.order.items h.0 = c.remove-placed.ensures.items
    ∙ ap (remove a.order.items) at in
    let e : c.placed.inside.symbols.items ≡ r.symbols = ap (λ (o : Entered). o.symbols) c.placed.view_is in
    let t = again a.order.items a.rows.items a.places.items
    (vec_capacity c.remove-placed.new.self - vec_len c.remove-placed.new.self) _ h.0 r c.self.invariant
    (λ v. (omega (arith, v.ok.0), omega (arith, v.ok.0, v.ok.1))) f.within (λ d.
    get_or_default a.order.items h.0 d r f.within ∙ sym here)
    (omega (arith, c.remove-placed.ensures.len, c.remove-placed.ensures.capacity, a.order.ok.0, a.order.ok.1))
    (omega (
      arith,
      t.within,
      c.remove-place.ensures.len,
      c.remove-place.ensures.capacity,
      a.places.ok.0,
      a.places.ok.1,
    )) in
    let rooms' = rooms a.rows.items c.remove_all.new.table.items c.remove_all.ensures.room.long
    c.remove_all.ensures.room.row in
    rw (e, left, rooms') t
