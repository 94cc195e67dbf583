use Rattle.symres_table.proofs.Common.{All, Entered, List, NamedSymbol, Spells, SpellsSeen, State, ap, arith, false}
use Rattle.symres_table.proofs.Common.{insert, length, length-insert, length-map, map, map-insert, refl, rooms, spell}
use Rattle.symres_table.proofs.Common.{subst, sym, vec_capacity, ℕ, ◌==◌, ◌∙◌, ◌≡◌, ◌≤◌}
use Rattle.symres_table.specs.State.{IsMore}
use Rattle.symres_table.proofs.Fresh.{unused}
use Rattle.symres_table.proofs.Joined.{can_enter, fresh_key, may_enter, spellable_insert}
use Rattle.symres_table.proofs.Spelling.{AllSpellable, same_objects, spellable_kept}
use Rattle.symres_table.proofs.names.Names.add.Goals as goal

abbrev room_in : Entered → ℕ
room_in o = o.room

pub enter-requires-clause-fresh : goal.enter-requires-clause-fresh
enter-requires-clause-fresh c =
    let a = c.self.inside in
    subst (All (λ (o : Entered). (o.key == c.args.key.0) ≡ false))
    (sym c.reserve_fields.ensures.same.objects)
    (fresh_key a.known.slots a.objects.objects c.args.key.0 (rw (← c.self.view_is) at c.requires.fresh))

pub enter-requires-clause-room : goal.enter-requires-clause-room
enter-requires-clause-room c =
    let a = c.self.inside in
    let e = c.in_ok-reserve_fields.ensures in
    let names = c.reserve_fields.new.known.slots in
    let os = c.reserve_fields.new.objects.objects in
    let symbols = c.args.object.now.symbols in
    let named : AllSpellable names os =
    subst (AllSpellable names) (sym e.same.objects)
    (spellable_kept a.known.slots names a.objects.objects e.kept c.self.invariant.named) in
    let spells : Spells names c.number_seen.new.list.items symbols =
    c.number_seen.ensures.spelled names
    (subst (λ ss. SpellsSeen names ss symbols) (sym c.deref.ensures.value) e.seen) in
    let may = may_enter names c.reserve_fields.new.objects (rooms c.reserve_fields.new.spare.items)
    (map room_in os) c.reserve_fields.new.known.order symbols c.len-known.ensures.distinct named e.ok e.list in
    can_enter names c.reserve_fields.new.objects (rooms c.reserve_fields.new.spare.items) (map room_in os)
    c.reserve_fields.new.known.order c.number_seen.new.list.items symbols c.len-known.ensures.distinct named spells may

pub invariant_of-self-2 : goal.invariant_of-self-2
invariant_of-self-2 c =
    let a = c.self.inside in
    let e = c.in_ok-reserve_fields.ensures in
    let names = c.reserve_fields.new.known.slots in
    let os = c.reserve_fields.new.objects.objects in
    let symbols = c.args.object.now.symbols in
    let named : AllSpellable names os =
    subst (AllSpellable names) (sym e.same.objects)
    (spellable_kept a.known.slots names a.objects.objects e.kept c.self.invariant.named) in
    let spells : Spells names c.number_seen.new.list.items symbols =
    c.number_seen.ensures.spelled names
    (subst (λ ss. SpellsSeen names ss symbols) (sym c.deref.ensures.value) e.seen) in
    let new : Entered = record {
      key = c.args.key.0;
      symbols = c.number_seen.new.list.items;
      room = vec_capacity c.number_seen.new.list;
    } in
    let at : c.args.at ≤ length os =
    omega (
      arith,
      c.requires.at,
      ap length e.same.objects,
      ap (λ (s : State). length s.objects) c.self.view_is,
      length-map a.objects.objects (spell a.known.slots),
    ) in
    record {
      named = subst (AllSpellable names) (sym c.enter.ensures.objects)
          (spellable_insert names os c.args.at new named spells.well);
      lists = omega (
        arith,
        c.take_list-list.ensures.len,
        c.take_list-list.ensures.capacity,
        e.room,
        ap length e.same.objects,
        ap length c.enter.ensures.objects,
        length-insert os c.args.at new at,
      );
    }

pub returns-clause-objects : goal.returns-clause-objects
returns-clause-objects c =
    let a = c.self.inside in
    let e = c.in_ok-reserve_fields.ensures in
    let names = c.reserve_fields.new.known.slots in
    let os = c.reserve_fields.new.objects.objects in
    let symbols = c.args.object.now.symbols in
    let named : AllSpellable names os =
    subst (AllSpellable names) (sym e.same.objects)
    (spellable_kept a.known.slots names a.objects.objects e.kept c.self.invariant.named) in
    let spells : Spells names c.number_seen.new.list.items symbols =
    c.number_seen.ensures.spelled names
    (subst (λ ss. SpellsSeen names ss symbols) (sym c.deref.ensures.value) e.seen) in
    let new : Entered = record {
      key = c.args.key.0;
      symbols = c.number_seen.new.list.items;
      room = vec_capacity c.number_seen.new.list;
    } in
    let same : map (spell names) os ≡ c.args.self.now.objects =
    ap (map (spell names)) e.same.objects
    ∙ sym (same_objects a.known.slots names a.objects.objects e.kept c.self.invariant.named)
    ∙ ap (λ (s : State). s.objects) c.self.view_is in
    let put : map (spell names) c.enter.new.self.objects
    ≡ insert (map (spell names) os) c.args.at (c.args.key.0, symbols) =
    ap (map (spell names)) c.enter.ensures.objects ∙ map-insert (spell names) os c.args.at new
    ∙ ap (λ (ss : List NamedSymbol). insert (map (spell names) os) c.args.at (c.args.key.0, ss)) spells.spelled in
    put ∙ ap (λ ts. insert ts c.args.at (c.args.key.0, symbols)) same

pub returns-clause-joins : goal.returns-clause-joins
returns-clause-joins c =
    let a = c.self.inside in
    let e = c.in_ok-reserve_fields.ensures in
    let names = c.reserve_fields.new.known.slots in
    let os = c.reserve_fields.new.objects.objects in
    let symbols = c.args.object.now.symbols in
    let named : AllSpellable names os =
    subst (AllSpellable names) (sym e.same.objects)
    (spellable_kept a.known.slots names a.objects.objects e.kept c.self.invariant.named) in
    let spells : Spells names c.number_seen.new.list.items symbols =
    c.number_seen.ensures.spelled names
    (subst (λ ss. SpellsSeen names ss symbols) (sym c.deref.ensures.value) e.seen) in
    let may = may_enter names c.reserve_fields.new.objects (rooms c.reserve_fields.new.spare.items)
    (map room_in os) c.reserve_fields.new.known.order symbols c.len-known.ensures.distinct named e.ok e.list in
    let new : Entered = record {
      key = c.args.key.0;
      symbols = c.number_seen.new.list.items;
      room = vec_capacity c.number_seen.new.list;
    } in
    let same : map (spell names) os ≡ c.args.self.now.objects =
    ap (map (spell names)) e.same.objects
    ∙ sym (same_objects a.known.slots names a.objects.objects e.kept c.self.invariant.named)
    ∙ ap (λ (s : State). s.objects) c.self.view_is in
    let put : map (spell names) c.enter.new.self.objects
    ≡ insert (map (spell names) os) c.args.at (c.args.key.0, symbols) =
    ap (map (spell names)) c.enter.ensures.objects ∙ map-insert (spell names) os c.args.at new
    ∙ ap (λ (ss : List NamedSymbol). insert (map (spell names) os) c.args.at (c.args.key.0, ss)) spells.spelled in
    let t = c.take_list-list.ensures.taken in
    let mid : State = record {
      objects = map (spell names) os;
      names = names;
      room = c.reserve_fields.new.objects.room;
      order_room = c.reserve_fields.new.objects.order_room;
      place_room = c.reserve_fields.new.objects.place_room;
      spare = rooms c.reserve_fields.new.spare.items;
      held = map room_in os;
      order = c.reserve_fields.new.known.order;
    } in
    let more : IsMore c.args.self.now mid = rw (← c.self.view_is) record {
      listed = e.added;
      names = e.kept;
      rows = e.same.rows;
      room = e.same.room;
      order = e.same.order;
      places = e.same.places;
      spare = e.lists;
      held = ap (map room_in) e.same.objects;
    } in
    record {
      mid = mid;
      reserves = record {
        objects = same;
        more = more;
        may = may;
        unused = rw (← c.self.view_is)
            (unused a.known c.reserve_fields.new.known a.objects.objects c.len-before.ensures.listing
            c.len-known.ensures.listing e.added c.self.invariant.named);
      };
      enters = record {
        within = omega (arith, c.requires.at, ap length same);
        objects = put;
        same = record { order = refl; names = refl; room = c.enter.ensures.room };
        order = c.enter.ensures.order;
        places = c.enter.ensures.places;
        list = record {
          from = t.from;
          within = t.within;
          long = omega (
            arith,
            t.is,
            c.take_list-list.ensures.room,
            ap length c.symbols.ensures.value,
            length-map symbols (λ (s : NamedSymbol). s.symbol),
          );
          spare = t.rest;
          held = ap (map room_in) c.enter.ensures.objects ∙ map-insert room_in os c.args.at new
              ∙ ap (λ n. insert (map room_in os) c.args.at n) (c.number_seen.ensures.capacity ∙ sym t.is);
        };
      };
    }
