use Rattle.relink.proofs.Common.{AreDecisionsOf, AreTablesOf, CountsNames, List, Listing, Matches, Option, Statement}
use Rattle.relink.proofs.Common.{Table, ap, arith, changed_tables, deque_len, keys_of, length, map, next_entries}
use Rattle.relink.proofs.Common.{next_listing, place_at, refl, subst, sym, ℕ, ◌∙◌}
use Rattle.relink.specs.Matches.{exchanged}
use Rattle.relink.proofs.Exchanged.{MayStand, Stands, added_within, exchanged_as, into_within, out_within}
use Rattle.relink.proofs.Following.{coming_of, kept_after, kept_forgetting, keys_of_tables, may_stand, stands}
use Rattle.relink.proofs.Followed.{names_of_change}
use Rattle.relink.proofs.link_tables.LinkTables.follow_object.Goals as goal

pub change-order-requires-clause-order : goal.change-order-requires-clause-order
change-order-requires-clause-order c =
    let x = c.object_change-change.result in
    c.in_ok-coming.ensures.room.order
    ∙ (ap (λ (l : Listing). keys_of l.entries) c.next-next.ensures.next
    ∙ (sym (keys_of_tables (next_entries c.args.project.now.contents.entries c.args.staged.now.objects))
    ∙ ap (map (λ (t : Table). t.0))
    (sym (ap (λ (ts : List Table). changed_tables ts x)
    (c.make_room.ensures.same.objects ∙ c.requires.given.kept.tables)
    ∙ c.object_change-change.ensures.tables))))

pub swap_matches-gone-requires-clause-out : goal.swap_matches-gone-requires-clause-out
swap_matches-gone-requires-clause-out c =
    let v = c.make_room.new.self.matches in
    let ms : List Matches = c.args.self.now.matches.items in
    let there = stands c.args.project.now c.args.staged.now c.args.key.0 c.object_change-change.result
    c.args.self.now.symbol_table ms c.object_change-change.ensures c.requires.given.kept in
    out_within ms c.place_of-out.result (deque_len v)
    (subst (λ (p : Option ℕ). Stands ms p) (sym c.place_of-out.ensures) there)
    (omega (arith, v.ok.0, v.ok.1, ap (λ (l : List Matches). length l) c.make_room.ensures.same.matches))

pub swap_matches-gone-requires-clause-into : goal.swap_matches-gone-requires-clause-into
swap_matches-gone-requires-clause-into c =
    let v = c.make_room.new.self.matches in
    let ms : List Matches = c.args.self.now.matches.items in
    let x = c.object_change-change.result in
    let there = stands c.args.project.now c.args.staged.now c.args.key.0 x
    c.args.self.now.symbol_table ms c.object_change-change.ensures c.requires.given.kept in
    let may = may_stand c.args.project.now c.args.staged.now c.args.key.0 x
    c.args.self.now.symbol_table ms c.requires.given.arranged c.requires.edited c.object_change-change.ensures
    c.requires.given.kept in
    into_within ms c.place_of-out.result c.place_of-into.result (deque_len v)
    (subst (λ (p : Option ℕ). Stands ms p) (sym c.place_of-out.ensures) there)
    (subst (λ (p : Option ℕ). MayStand ms p c.place_of-into.result) (sym c.place_of-out.ensures)
    (subst (λ (q : Option ℕ). MayStand ms (place_at x.out) q) (sym c.place_of-into.ensures) may))
    (omega (arith, v.ok.0, v.ok.1, ap (λ (l : List Matches). length l) c.make_room.ensures.same.matches))

pub swap_matches-gone-requires-clause-added : goal.swap_matches-gone-requires-clause-added
swap_matches-gone-requires-clause-added c =
    let v = c.make_room.new.self.matches in
    let ms : List Matches = c.args.self.now.matches.items in
    let x = c.object_change-change.result in
    let there = stands c.args.project.now c.args.staged.now c.args.key.0 x
    c.args.self.now.symbol_table ms c.object_change-change.ensures c.requires.given.kept in
    let may = may_stand c.args.project.now c.args.staged.now c.args.key.0 x
    c.args.self.now.symbol_table ms c.requires.given.arranged c.requires.edited c.object_change-change.ensures
    c.requires.given.kept in
    added_within ms (place_at x.out) c.place_of-into.result (deque_len v) there
    (subst (λ (q : Option ℕ). MayStand ms (place_at x.out) q) (sym c.place_of-into.ensures) may)
    (omega (arith, v.ok.0, v.ok.1, ap (λ (l : List Matches). length l) c.make_room.ensures.same.matches))

pub returns-clause-kept : goal.returns-clause-kept
returns-clause-kept c =
    let h = c.args.project.now in
    let s = c.args.staged.now in
    let x = c.object_change-change.result in
    let ms : List Matches = c.args.self.now.matches.items in
    let coming = c.in_ok-coming.coming.matches in
    let items = c.swap_matches-gone.ensures.items
    ∙ exchanged_as c.make_room.new.self.matches.items ms c.place_of-out.result (place_at x.out) c.place_of-into.result
    (place_at x.into) coming coming c.make_room.ensures.same.matches c.place_of-out.ensures c.place_of-into.ensures refl
    in
    let put : List Matches = exchanged ms (place_at x.out) (place_at x.into) coming in
    subst (λ (l : List Matches). AreTablesOf (next_listing h s) c.forget_if.new.symbol_table l) (sym items)
    (kept_forgetting (next_listing h s) c.change-order.new.self c.forget_if.new.symbol_table put
    c.forget_if.ensures.tables c.forget_if.ensures.kept
    (kept_after h s c.args.key.0 x c.args.self.now.symbol_table c.change-order.new.self ms coming
    c.requires.given.arranged c.requires.given.one c.requires.edited c.object_change-change.ensures
    c.requires.given.kept
    (c.change-order.ensures.objects ∙ ap (λ (ts : List Table). changed_tables ts x) c.make_room.ensures.same.objects)
    (subst (λ (t : List Statement). AreDecisionsOf t c.change-order.new.self.kept)
    (c.script-script.ensures ∙ ap (λ (l : Listing). l.script) c.next-next.ensures.next) c.change-order.ensures.kept)
    (coming_of h s c.args.key.0 c.next-next.result x coming c.next-next.ensures.next c.object_change-change.ensures.is
    c.in_ok-coming.ensures.room.coming)))

pub returns-clause-counted : goal.returns-clause-counted
returns-clause-counted c =
    let h = c.args.project.now in
    let s = c.args.staged.now in
    let x = c.object_change-change.result in
    subst (λ (ns : List (List ℕ)). CountsNames c.args.meter.now c.change-order.new.meter ns)
    (names_of_change h.contents.entries s.objects c.args.key.0 x c.requires.edited c.object_change-change.ensures)
    c.change-order.ensures.counted
