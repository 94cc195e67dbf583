use Rattle.relink.proofs.Common.{AreDecisionsOf, AreTablesOf, List, Listing, Statement, SymbolTableState, ap}
use Rattle.relink.proofs.Common.{declared_names, lent_of, names_of_step, next_listing, subst, sym, ◌∙◌}
use Rattle.relink.proofs.Followed.{is_followed}
use Rattle.relink.proofs.Following.{kept_renewed}
use Rattle.relink.proofs.link_tables.LinkTables.update_and_link_script.Goals as goal

pub link_next-requires-clause-kept : goal.link_next-requires-clause-kept
link_next-requires-clause-kept c =
    let h = c.args.project.now in
    let s = c.args.staged.now in
    let names = subst (λ (t : List Statement). AreDecisionsOf t c.redecide.new.self.kept)
    (c.script-2.ensures ∙ ap (λ (l : Listing). l.script) c.next-next.ensures.next) c.redecide.ensures.kept in
    subst (λ (l : Listing). AreTablesOf l c.redecide.new.self c.put_new-before.new.list.items)
    (sym c.next-next.ensures.next)
    (kept_renewed h s c.next-next.result c.script.result.now c.args.self.now.symbol_table c.redecide.new.self
    c.args.self.now.matches.items c.put_new-before.new.list.items c.in_ok-found.found c.requires.given.arranged
    c.requires.edited c.requires.given.kept c.next-next.ensures.next c.script.ensures c.in_ok-found.ensures
    c.redecide.ensures.names names c.put_new-before.ensures.items)

pub returns-in-Ok-clause-updated : goal.returns-in-Ok-clause-updated
returns-in-Ok-clause-updated c =
    let h = c.args.project.now in
    let s = c.args.staged.now in
    let names = subst (λ (t : List Statement). AreDecisionsOf t c.redecide.new.self.kept)
    (c.script-2.ensures ∙ ap (λ (l : Listing). l.script) c.next-next.ensures.next) c.redecide.ensures.kept in
    let kept = subst (λ (t : SymbolTableState). AreTablesOf (next_listing h s) t c.put_new-before.new.list.items)
    (sym c.link_next.ensures.same)
    (kept_renewed h s c.next-next.result c.script.result.now c.args.self.now.symbol_table c.redecide.new.self
    c.args.self.now.matches.items c.put_new-before.new.list.items c.in_ok-found.found c.requires.given.arranged
    c.requires.edited c.requires.given.kept c.next-next.ensures.next c.script.ensures c.in_ok-found.ensures
    c.redecide.ensures.names names c.put_new-before.ensures.items) in
    is_followed h s (lent_of c.args.previous) _ c.args.canvas.now.bytes c.link_next.new.canvas.bytes
    c.args.meter.now
    c.redecide.new.meter c.link_next.new.meter c.in-Ok.updated c.next-next.result _ c.next-next.ensures.next kept
    c.redecide.ensures.counted
    (ap declared_names c.requires.given.kept.tables
    ∙ ap (names_of_step h.contents.entries s.objects) (sym c.requires.edited))
    c.in-Ok.ensures.updated c.in-Ok.ensures.reads c.in-Ok.ensures.worked
