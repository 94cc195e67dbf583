use Rattle.symres_table.proofs.Common.{Entered, List, NamedSymbol, State, ap, arith, insert, length, length-insert}
use Rattle.symres_table.proofs.Common.{length-map, map, map-insert, rooms, slot, spell, subst, sym, vec_capacity, ℕ}
use Rattle.symres_table.proofs.Common.{◌∙◌, ◌≤◌}
use Rattle.symres_table.proofs.Spelling.{AllSpellable}
use Rattle.symres_table.proofs.Joined.{fresh_key, can_enter, spellable_insert}
use Rattle.symres_table.proofs.names.Names.enter.Goals as goal

abbrev room_in : Entered → ℕ
room_in o = o.room

pub number_all-requires-clause-known : goal.number_all-requires-clause-known
number_all-requires-clause-known c = λ j x l v.
    let k = c.requires.room.known j x l v in
    (k.0, ap (λ (s : State). slot s.names k.0) c.self.view_is ∙ k.1)

pub enter-requires-clause-fresh : goal.enter-requires-clause-fresh
enter-requires-clause-fresh c =
    fresh_key c.self.inside.known.slots c.self.inside.objects.objects c.args.key.0
    (rw (← c.self.view_is) at c.requires.fresh)

pub enter-requires-clause-room : goal.enter-requires-clause-room
enter-requires-clause-room c =
    let a = c.self.inside in
    can_enter a.known.slots a.objects (rooms a.spare.items) (map room_in a.objects.objects) a.known.order
    c.number_all.new.list.items c.args.object.now.symbols c.len-known.ensures.distinct c.self.invariant.named
    c.number_all.ensures.spelled
    (rw (← c.self.view_is) at c.requires.room)

pub invariant_of-self : goal.invariant_of-self
invariant_of-self c =
    let a = c.self.inside in
    let os = a.objects.objects in
    let new : Entered = record {
      key = c.args.key.0;
      symbols = c.number_all.new.list.items;
      room =
          vec_capacity c.number_all.new.list;
    } in
    let at : c.args.at ≤ length os =
    omega (
      arith,
      c.requires.at,
      ap (λ (s : State). length s.objects) c.self.view_is,
      length-map os (spell a.known.slots),
    ) in
    record {
      named = subst (AllSpellable a.known.slots) (sym c.enter.ensures.objects)
          (spellable_insert a.known.slots os c.args.at new c.self.invariant.named c.number_all.ensures.spelled.well);
      lists = omega (
        arith,
        c.take_list-list.ensures.len,
        c.take_list-list.ensures.capacity,
        c.self.invariant.lists,
        ap length c.enter.ensures.objects,
        length-insert os c.args.at new at,
      );
    }

pub returns-clause-objects : goal.returns-clause-objects
returns-clause-objects c =
    let a = c.self.inside in
    let os = a.objects.objects in
    let new : Entered = record {
      key = c.args.key.0;
      symbols = c.number_all.new.list.items;
      room =
          vec_capacity c.number_all.new.list;
    } in
    ap (map (spell a.known.slots)) c.enter.ensures.objects ∙ map-insert (spell a.known.slots) os c.args.at new
    ∙ ap (λ (ss : List NamedSymbol). insert (map (spell a.known.slots) os) c.args.at (c.args.key.0, ss))
    c.number_all.ensures.spelled.spelled
    ∙ ap (λ (s : State). insert s.objects c.args.at (c.args.key.0, c.args.object.now.symbols)) c.self.view_is

pub returns-clause-list : goal.returns-clause-list
returns-clause-list c =
    let a = c.self.inside in
    let os = a.objects.objects in
    let t = c.take_list-list.ensures.taken in
    let new : Entered = record {
      key = c.args.key.0;
      symbols = c.number_all.new.list.items;
      room =
          vec_capacity c.number_all.new.list;
    } in
    rw (← c.self.view_is) record {
      from = t.from;
      within = t.within;
      long = omega (
        arith,
        t.is,
        c.take_list-list.ensures.room,
        ap length c.symbols.ensures.value,
        length-map c.args.object.now.symbols (λ (s : NamedSymbol). s.symbol),
      );
      spare = t.rest;
      held = ap (map room_in) c.enter.ensures.objects ∙ map-insert room_in os c.args.at new
          ∙ ap (λ n. insert (map room_in os) c.args.at n) (c.number_all.ensures.capacity ∙ sym t.is);
    }
