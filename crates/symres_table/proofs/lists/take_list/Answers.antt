use Rattle.symres_table.proofs.Common.{ap, arith, length, length-map, map-remove, rooms, sym, ◌<◌, ◌∙◌}
use Rattle.std.proofs.lemmas.List.{get_or-map}
use Rattle.symres_table.proofs.ListSetAside.{room_of}
use Rattle.symres_table.proofs.lists.take_list.Goals as goal

pub returns-clause-taken : goal.returns-clause-taken
returns-clause-taken c =
    let ls = c.args.spare.now.items in
    let at = c.find-at.result in
    let lt : at < length ls = omega (arith, c.find-at.ensures.within, ap length c.deref.ensures.value) in
    record {
      from = at;
      within = omega (arith, lt, length-map ls room_of);
      is = get_or-map room_of ls at c.remove-list.result 0 lt ∙ ap room_of (sym c.remove-list.ensures.value)
          ∙ sym c.clear.ensures.capacity;
      rest = ap rooms c.remove-list.ensures.items ∙ map-remove room_of ls at;
    }
