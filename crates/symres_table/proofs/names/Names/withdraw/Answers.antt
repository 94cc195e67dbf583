use Rattle.symres_table.proofs.Common.{Entered, HasList, IsSpellable, State, [], ap, arith, length, length-map}
use Rattle.symres_table.proofs.Common.{length-remove, map, map-remove, rooms, spell, spell_symbol, subst, sym}
use Rattle.symres_table.proofs.Common.{vec_capacity, ℕ, ◌++◌, ◌+◌, ◌∙◌, ◌∷◌, ◌≤◌}
use Rattle.std.proofs.lemmas.List.{get_or-map}
use Rattle.symres_table.specs.State.{without}
use Rattle.symres_table.proofs.Placing.{all_removed}
use Rattle.symres_table.proofs.ListSetAside.{rooms_push}
use Rattle.symres_table.proofs.Spelling.{AllSpellable}
use Rattle.symres_table.proofs.Joined.{has_key, without_spelled, may_again, others_may, last_list, spelled_so}
use Rattle.symres_table.proofs.names.Names.withdraw.Goals as goal

abbrev room_in : Entered → ℕ
room_in o = o.room

pub withdraw-list-requires : goal.withdraw-list-requires
withdraw-list-requires c =
    has_key c.self.inside.known.slots c.self.inside.objects.objects c.args.key.0 (rw (← c.self.view_is) at c.requires)

pub invariant_of-self : goal.invariant_of-self
invariant_of-self c =
    let a = c.self.inside in
    let os = a.objects.objects in
    let v = c.withdraw-list.ensures.leaves in
    record {
      named = subst (AllSpellable a.known.slots) (sym v.rest)
          (all_removed (λ (o : Entered). IsSpellable a.known.slots o.symbols) os v.at c.self.invariant.named);
      lists = omega (
        arith,
        c.push_reserved.ensures.len,
        c.push_reserved.ensures.capacity,
        c.self.invariant.lists,
        ap length v.rest,
        length-remove os v.at v.within,
      );
    }

pub returns-clause-objects : goal.returns-clause-objects
returns-clause-objects c =
    let a = c.self.inside in
    ap (map (spell a.known.slots)) c.withdraw-list.ensures.objects
    ∙ without_spelled a.known.slots c.args.key.0 a.objects.objects
    ∙ ap (λ (s : State). without c.args.key.0 s.objects) c.self.view_is

pub returns-clause-list : goal.returns-clause-list
returns-clause-list c =
    let a = c.self.inside in
    let os = a.objects.objects in
    let v = c.withdraw-list.ensures.leaves in
    let gone : Entered = record {
      key = c.args.key.0;
      symbols = c.withdraw-list.result.items;
      room =
          vec_capacity c.withdraw-list.result;
    } in
    rw (← c.self.view_is) record {
      at = v.at;
      within = omega (arith, v.within, length-map os room_in);
      is = λ d. ap (λ (t : ℕ × _). t.0) (get_or-map (spell a.known.slots) os v.at gone d v.within)
          ∙ ap (λ (o : Entered). o.key) (v.is gone);
      spare = ap rooms c.push_reserved.ensures.items ∙ rooms_push a.spare.items c.withdraw-list.result
          ∙ ap (λ n. rooms a.spare.items
          ++ n ∷ []) (sym (get_or-map room_in os v.at gone 0 v.within ∙ ap room_in (v.is gone)));
      held = ap (map room_in) v.rest ∙ map-remove room_in os v.at;
    }

pub returns-clause-others : goal.returns-clause-others
returns-clause-others c = λ symbols m.
    let a = c.self.inside in
    others_may c.args.self.now _ c.args.key.0 (vec_capacity c.withdraw-list.result) symbols (returns-clause-objects c)
    (ap (λ (s : State). s.names) c.self.view_is)
    (c.withdraw-list.ensures.room ∙ ap (λ (s : State). s.room) c.self.view_is) (c.withdraw-list.ensures.order
    ∙ ap (λ (s : State). s.order_room + 1) c.self.view_is) (c.withdraw-list.ensures.places
    ∙ ap (λ (s : State). s.place_room + 1) c.self.view_is)
    (ap rooms c.push_reserved.ensures.items ∙ rooms_push a.spare.items c.withdraw-list.result
    ∙ ap (λ (s : State). s.spare ++ vec_capacity c.withdraw-list.result ∷ []) c.self.view_is) m

pub returns-clause-again : goal.returns-clause-again
returns-clause-again c =
    let a = c.self.inside in
    let os = a.objects.objects in
    let list = c.withdraw-list.result in
    let v = c.withdraw-list.ensures.leaves in
    let gone : Entered = record { key = c.args.key.0; symbols = list.items; room = vec_capacity list } in
    let named : AllSpellable a.known.slots c.withdraw-list.new.self.objects =
    subst (AllSpellable a.known.slots) (sym v.rest)
    (all_removed (λ (o : Entered). IsSpellable a.known.slots o.symbols) os v.at c.self.invariant.named) in
    let mine : IsSpellable a.known.slots list.items =
    subst (λ (o : Entered). IsSpellable a.known.slots o.symbols) (v.is gone)
    (c.self.invariant.named v.at gone v.within) in
    let spare = ap rooms c.push_reserved.ensures.items ∙ rooms_push a.spare.items list in
    let long : length (map (spell_symbol a.known.slots) list.items) ≤ vec_capacity list =
    omega (arith, length-map list.items (spell_symbol a.known.slots), list.ok.0, list.ok.1) in
    let m = may_again a.known.slots c.withdraw-list.new.self (rooms c.push_reserved.new.self.items)
    (map room_in c.withdraw-list.new.self.objects) a.known.order list.items c.len-known.ensures.distinct named mine
    c.withdraw-list.ensures.again
    (subst (λ l. HasList l (length (map (spell_symbol a.known.slots) list.items))) (sym spare)
    (last_list (rooms a.spare.items) (vec_capacity list) _ long)) in
    rw (← c.self.view_is) (λ j o l q.
    rw (spelled_so a.known.slots c.args.key.0 list.items os c.withdraw-list.ensures.symbols j o l q) m)
