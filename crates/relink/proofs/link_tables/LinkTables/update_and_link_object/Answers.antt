use Rattle.relink.proofs.Common.{AreDecisionsOf, AreTablesOf, List, Listing, Matches, Option, Statement}
use Rattle.relink.proofs.Common.{SymbolTableState, Table, ap, arith, changed_tables, deque_len, keys_of, length}
use Rattle.relink.proofs.Common.{lent_of, map, next_entries, next_listing, place_at, refl, reversed, subst, sym, ℕ, ◌∙◌}
use Rattle.relink.specs.Matches.{exchanged, gone_at}
use Rattle.relink.proofs.Exchanged.{MayStand, Stands, added_within, exchanged_as, gone_as, into_within, may_after}
use Rattle.relink.proofs.Exchanged.{out_within, stands_after}
use Rattle.relink.proofs.Following.{both_come, coming_of, kept_after, kept_back, kept_forgetting}
use Rattle.relink.proofs.Following.{keys_of_tables, may_stand, same_script, stands}
use Rattle.relink.proofs.Followed.{is_followed, names_of_change}
use Rattle.relink.proofs.link_tables.LinkTables.update_and_link_object.Goals as goal

pub change-order-requires-clause-order : goal.change-order-requires-clause-order
change-order-requires-clause-order c =
    let x = c.object_change-change.result in
    c.in_ok-coming.ensures.room.order
    ∙ (ap (λ (l : Listing). keys_of l.entries) c.next-next.ensures.next
    ∙ (sym (keys_of_tables (next_entries c.args.project.now.contents.entries c.args.staged.now.objects))
    ∙ ap (map (λ (t : Table). t.0))
    (sym (ap (λ (ts : List Table). changed_tables ts x)
    (c.make_room.ensures.same.objects ∙ c.requires.given.kept.tables)
    ∙ c.object_change-change.ensures.tables))))

pub swap_matches-gone-requires-clause-out : goal.swap_matches-gone-requires-clause-out
swap_matches-gone-requires-clause-out c =
    let v = c.make_room.new.self.matches in
    let ms : List Matches = c.args.self.now.matches.items in
    let there = stands c.args.project.now c.args.staged.now c.args.key.0 c.object_change-change.result
    c.args.self.now.symbol_table ms c.object_change-change.ensures c.requires.given.kept in
    out_within ms c.place_of-out.result (deque_len v)
    (subst (λ (p : Option ℕ). Stands ms p) (sym c.place_of-out.ensures) there)
    (omega (arith, v.ok.0, v.ok.1, ap (λ (l : List Matches). length l) c.make_room.ensures.same.matches))

pub swap_matches-gone-requires-clause-into : goal.swap_matches-gone-requires-clause-into
swap_matches-gone-requires-clause-into c =
    let v = c.make_room.new.self.matches in
    let ms : List Matches = c.args.self.now.matches.items in
    let x = c.object_change-change.result in
    let there = stands c.args.project.now c.args.staged.now c.args.key.0 x
    c.args.self.now.symbol_table ms c.object_change-change.ensures c.requires.given.kept in
    let may = may_stand c.args.project.now c.args.staged.now c.args.key.0 x
    c.args.self.now.symbol_table ms c.requires.given.arranged c.requires.edited c.object_change-change.ensures
    c.requires.given.kept in
    into_within ms c.place_of-out.result c.place_of-into.result (deque_len v)
    (subst (λ (p : Option ℕ). Stands ms p) (sym c.place_of-out.ensures) there)
    (subst (λ (p : Option ℕ). MayStand ms p c.place_of-into.result) (sym c.place_of-out.ensures)
    (subst (λ (q : Option ℕ). MayStand ms (place_at x.out) q) (sym c.place_of-into.ensures) may))
    (omega (arith, v.ok.0, v.ok.1, ap (λ (l : List Matches). length l) c.make_room.ensures.same.matches))

pub swap_matches-gone-requires-clause-added : goal.swap_matches-gone-requires-clause-added
swap_matches-gone-requires-clause-added c =
    let v = c.make_room.new.self.matches in
    let ms : List Matches = c.args.self.now.matches.items in
    let x = c.object_change-change.result in
    let there = stands c.args.project.now c.args.staged.now c.args.key.0 x
    c.args.self.now.symbol_table ms c.object_change-change.ensures c.requires.given.kept in
    let may = may_stand c.args.project.now c.args.staged.now c.args.key.0 x
    c.args.self.now.symbol_table ms c.requires.given.arranged c.requires.edited c.object_change-change.ensures
    c.requires.given.kept in
    added_within ms (place_at x.out) c.place_of-into.result (deque_len v) there
    (subst (λ (q : Option ℕ). MayStand ms (place_at x.out) q) (sym c.place_of-into.ensures) may)
    (omega (arith, v.ok.0, v.ok.1, ap (λ (l : List Matches). length l) c.make_room.ensures.same.matches))

pub link_next-requires-clause-kept : goal.link_next-requires-clause-kept
link_next-requires-clause-kept c =
    let h = c.args.project.now in
    let s = c.args.staged.now in
    let x = c.object_change-change.result in
    let ms : List Matches = c.args.self.now.matches.items in
    let coming = c.in_ok-coming.coming.matches in
    let items = c.swap_matches-gone.ensures.items
    ∙ exchanged_as c.make_room.new.self.matches.items ms c.place_of-out.result (place_at x.out) c.place_of-into.result
    (place_at x.into) coming coming c.make_room.ensures.same.matches c.place_of-out.ensures c.place_of-into.ensures refl
    in
    let after = kept_after h s c.args.key.0 x c.args.self.now.symbol_table c.change-order.new.self ms coming
    c.requires.given.arranged c.requires.given.one c.requires.edited c.object_change-change.ensures
    c.requires.given.kept
    (c.change-order.ensures.objects ∙ ap (λ (ts : List Table). changed_tables ts x) c.make_room.ensures.same.objects)
    (subst (λ (t : List Statement). AreDecisionsOf t c.change-order.new.self.kept)
    (c.script-script.ensures ∙ ap (λ (l : Listing). l.script) c.next-next.ensures.next) c.change-order.ensures.kept)
    (coming_of h s c.args.key.0 c.next-next.result x coming c.next-next.ensures.next c.object_change-change.ensures.is
    c.in_ok-coming.ensures.room.coming) in
    subst (λ (l : Listing). AreTablesOf l c.change-order.new.self c.swap_matches-gone.new.list.items)
    (sym c.next-next.ensures.next)
    (subst (λ (l : List Matches). AreTablesOf (next_listing h s) c.change-order.new.self l) (sym items) after)

pub swap_matches-requires-clause-out : goal.swap_matches-requires-clause-out
swap_matches-requires-clause-out c =
    let h = c.args.project.now in
    let s = c.args.staged.now in
    let x = c.object_change-change.result in
    let v = c.swap_matches-gone.new.list in
    let ms : List Matches = c.args.self.now.matches.items in
    let coming = c.in_ok-coming.coming.matches in
    let items = c.swap_matches-gone.ensures.items
    ∙ exchanged_as c.make_room.new.self.matches.items ms c.place_of-out.result (place_at x.out) c.place_of-into.result
    (place_at x.into) coming coming c.make_room.ensures.same.matches c.place_of-out.ensures c.place_of-into.ensures refl
    in
    let may = may_stand h s c.args.key.0 x c.args.self.now.symbol_table ms c.requires.given.arranged
    c.requires.edited c.object_change-change.ensures c.requires.given.kept in
    let both = both_come h s c.args.key.0 x coming c.object_change-change.ensures
    (coming_of h s c.args.key.0 c.next-next.result x coming c.next-next.ensures.next c.object_change-change.ensures.is
    c.in_ok-coming.ensures.room.coming) in
    let previous : List Matches = exchanged ms (place_at x.out) (place_at x.into) coming in
    out_within previous c.place_of-into.result (deque_len v)
    (subst (λ (q : Option ℕ). Stands previous q) (sym c.place_of-into.ensures)
    (stands_after ms (place_at x.out) (place_at x.into) coming may both))
    (omega (arith, v.ok.0, v.ok.1, ap (λ (l : List Matches). length l) items))

pub swap_matches-requires-clause-into : goal.swap_matches-requires-clause-into
swap_matches-requires-clause-into c =
    let h = c.args.project.now in
    let s = c.args.staged.now in
    let x = c.object_change-change.result in
    let v = c.swap_matches-gone.new.list in
    let ms : List Matches = c.args.self.now.matches.items in
    let coming = c.in_ok-coming.coming.matches in
    let items = c.swap_matches-gone.ensures.items
    ∙ exchanged_as c.make_room.new.self.matches.items ms c.place_of-out.result (place_at x.out) c.place_of-into.result
    (place_at x.into) coming coming c.make_room.ensures.same.matches c.place_of-out.ensures c.place_of-into.ensures refl
    in
    let there = stands h s c.args.key.0 x c.args.self.now.symbol_table ms c.object_change-change.ensures
    c.requires.given.kept in
    let may = may_stand h s c.args.key.0 x c.args.self.now.symbol_table ms c.requires.given.arranged
    c.requires.edited c.object_change-change.ensures c.requires.given.kept in
    let both = both_come h s c.args.key.0 x coming c.object_change-change.ensures
    (coming_of h s c.args.key.0 c.next-next.result x coming c.next-next.ensures.next c.object_change-change.ensures.is
    c.in_ok-coming.ensures.room.coming) in
    let previous : List Matches = exchanged ms (place_at x.out) (place_at x.into) coming in
    into_within previous c.place_of-into.result c.place_of-out.result (deque_len v)
    (subst (λ (q : Option ℕ). Stands previous q) (sym c.place_of-into.ensures)
    (stands_after ms (place_at x.out) (place_at x.into) coming may both))
    (subst (λ (q : Option ℕ). MayStand previous q c.place_of-out.result) (sym c.place_of-into.ensures)
    (subst (λ (p : Option ℕ). MayStand previous (place_at x.into) p) (sym c.place_of-out.ensures)
    (may_after ms (place_at x.out) (place_at x.into) coming there may both)))
    (omega (arith, v.ok.0, v.ok.1, ap (λ (l : List Matches). length l) items))

pub swap_matches-requires-clause-added : goal.swap_matches-requires-clause-added
swap_matches-requires-clause-added c =
    let h = c.args.project.now in
    let s = c.args.staged.now in
    let x = c.object_change-change.result in
    let v = c.swap_matches-gone.new.list in
    let ms : List Matches = c.args.self.now.matches.items in
    let coming = c.in_ok-coming.coming.matches in
    let items = c.swap_matches-gone.ensures.items
    ∙ exchanged_as c.make_room.new.self.matches.items ms c.place_of-out.result (place_at x.out) c.place_of-into.result
    (place_at x.into) coming coming c.make_room.ensures.same.matches c.place_of-out.ensures c.place_of-into.ensures refl
    in
    let there = stands h s c.args.key.0 x c.args.self.now.symbol_table ms c.object_change-change.ensures
    c.requires.given.kept in
    let may = may_stand h s c.args.key.0 x c.args.self.now.symbol_table ms c.requires.given.arranged
    c.requires.edited c.object_change-change.ensures c.requires.given.kept in
    let both = both_come h s c.args.key.0 x coming c.object_change-change.ensures
    (coming_of h s c.args.key.0 c.next-next.result x coming c.next-next.ensures.next c.object_change-change.ensures.is
    c.in_ok-coming.ensures.room.coming) in
    let previous : List Matches = exchanged ms (place_at x.out) (place_at x.into) coming in
    added_within previous (place_at x.into) c.place_of-out.result (deque_len v)
    (stands_after ms (place_at x.out) (place_at x.into) coming may both)
    (subst (λ (p : Option ℕ). MayStand previous (place_at x.into) p) (sym c.place_of-out.ensures)
    (may_after ms (place_at x.out) (place_at x.into) coming there may both))
    (omega (arith, v.ok.0, v.ok.1, ap (λ (l : List Matches). length l) items))

pub returns-in-Ok-clause-updated : goal.returns-in-Ok-clause-updated
returns-in-Ok-clause-updated c =
    let h = c.args.project.now in
    let s = c.args.staged.now in
    let x = c.object_change-change.result in
    let ms : List Matches = c.args.self.now.matches.items in
    let coming = c.in_ok-coming.coming.matches in
    let items = c.swap_matches-gone.ensures.items
    ∙ exchanged_as c.make_room.new.self.matches.items ms c.place_of-out.result (place_at x.out) c.place_of-into.result
    (place_at x.into) coming coming c.make_room.ensures.same.matches c.place_of-out.ensures c.place_of-into.ensures refl
    in
    let previous : List Matches = exchanged ms (place_at x.out) (place_at x.into) coming in
    let kept = subst (λ (l : List Matches). AreTablesOf (next_listing h s) c.forget_if.new.symbol_table l) (sym items)
    (kept_forgetting (next_listing h s) c.change-order.new.self c.forget_if.new.symbol_table previous
    (c.forget_if.ensures.tables ∙ ap (λ (t : SymbolTableState). t.kept.names.objects) c.link_next.ensures.same)
    (λ script kept. c.forget_if.ensures.kept script
    (subst (λ (t : SymbolTableState). AreDecisionsOf script t.kept) (sym c.link_next.ensures.same) kept))
    (kept_after h s c.args.key.0 x c.args.self.now.symbol_table c.change-order.new.self ms coming
    c.requires.given.arranged c.requires.given.one c.requires.edited c.object_change-change.ensures
    c.requires.given.kept
    (c.change-order.ensures.objects ∙ ap (λ (ts : List Table). changed_tables ts x) c.make_room.ensures.same.objects)
    (subst (λ (t : List Statement). AreDecisionsOf t c.change-order.new.self.kept)
    (c.script-script.ensures ∙ ap (λ (l : Listing). l.script) c.next-next.ensures.next) c.change-order.ensures.kept)
    (coming_of h s c.args.key.0 c.next-next.result x coming c.next-next.ensures.next c.object_change-change.ensures.is
    c.in_ok-coming.ensures.room.coming))) in
    is_followed h s (lent_of c.args.previous) _ c.args.canvas.now.bytes c.link_next.new.canvas.bytes
    c.args.meter.now
    c.change-order.new.meter c.link_next.new.meter c.in-Ok.updated c.next-next.result _ c.next-next.ensures.next kept
    c.change-order.ensures.counted
    (names_of_change h.contents.entries s.objects c.args.key.0 x c.requires.edited c.object_change-change.ensures)
    c.in-Ok.ensures.updated c.in-Ok.ensures.reads c.in-Ok.ensures.worked

pub returns-in-Err-clause-back : goal.returns-in-Err-clause-back
returns-in-Err-clause-back c =
    let h = c.args.project.now in
    let s = c.args.staged.now in
    let x = c.object_change-change.result in
    let ms : List Matches = c.args.self.now.matches.items in
    let coming = c.in_ok-coming.coming.matches in
    let old : List Matches = c.make_room.new.self.matches.items in
    let items = c.swap_matches-gone.ensures.items
    ∙ exchanged_as old ms c.place_of-out.result (place_at x.out) c.place_of-into.result
    (place_at x.into) coming coming c.make_room.ensures.same.matches c.place_of-out.ensures c.place_of-into.ensures refl
    in
    let gone = c.swap_matches-gone.ensures.gone
    ∙ gone_as old ms c.place_of-out.result (place_at x.out) c.make_room.ensures.same.matches c.place_of-out.ensures in
    let previous = c.swap_matches.ensures.items
    ∙ exchanged_as c.swap_matches-gone.new.list.items (exchanged ms (place_at x.out) (place_at x.into) coming)
    c.place_of-into.result (place_at x.into) c.place_of-out.result (place_at x.out) c.swap_matches-gone.result
    (gone_at ms (place_at x.out)) items c.place_of-into.ensures c.place_of-out.ensures gone in
    record {
      kept = kept_back h s c.args.key.0 x c.args.self.now.symbol_table c.change-order.new.self c.undo.new.self ms
          c.swap_matches.new.list.items coming c.requires.given.arranged c.requires.edited
          c.object_change-change.ensures
          c.requires.given.kept
          (c.change-order.ensures.objects
          ∙ ap (λ (ts : List Table). changed_tables ts x) c.make_room.ensures.same.objects)
          (c.undo.ensures.objects
          ∙ ap (λ (t : SymbolTableState). changed_tables t.kept.names.objects (reversed x)) c.link_next.ensures.same)
          (subst (λ (t : List Statement). AreDecisionsOf t c.undo.new.self.kept)
          (c.script-script.ensures
          ∙ (ap (λ (l : Listing). l.script) c.next-next.ensures.next
          ∙ same_script h s c.args.key.0 c.requires.given.one c.requires.edited))
          c.undo.ensures.kept)
          (coming_of h s c.args.key.0 c.next-next.result x coming c.next-next.ensures.next
          c.object_change-change.ensures.is c.in_ok-coming.ensures.room.coming)
          previous;
      canvas = c.in-Err.ensures.unchanged;
    }

pub undo-requires-clause-kept : goal.undo-requires-clause-kept
undo-requires-clause-kept c =
    subst (λ (t : SymbolTableState). AreDecisionsOf c.script-script.result.now t.kept) (sym c.link_next.ensures.same)
    c.change-order.ensures.kept
