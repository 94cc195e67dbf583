use Rattle.relink.proofs.Common.{AreDecisionsOf, CountsNames, List, Listing, Statement, ap, declared_names}
use Rattle.relink.proofs.Common.{names_of_step, subst, sym, ℕ, ◌∙◌}
use Rattle.relink.proofs.Following.{kept_renewed}
use Rattle.relink.proofs.link_tables.LinkTables.follow_script.Goals as goal

pub returns-clause-kept : goal.returns-clause-kept
returns-clause-kept c =
    let names = subst (λ (t : List Statement). AreDecisionsOf t c.redecide.new.self.kept)
    (c.script-2.ensures ∙ ap (λ (l : Listing). l.script) c.next-next.ensures.next) c.redecide.ensures.kept in
    kept_renewed c.args.project.now c.args.staged.now c.next-next.result c.script.result.now
    c.args.self.now.symbol_table c.redecide.new.self c.args.self.now.matches.items c.put_new-before.new.list.items
    c.in_ok-found.found c.requires.given.arranged c.requires.edited c.requires.given.kept c.next-next.ensures.next
    c.script.ensures c.in_ok-found.ensures c.redecide.ensures.names names c.put_new-before.ensures.items

pub returns-clause-counted : goal.returns-clause-counted
returns-clause-counted c =
    let h = c.args.project.now in
    let s = c.args.staged.now in
    subst (λ (ns : List (List ℕ)). CountsNames c.args.meter.now c.redecide.new.meter ns)
    (ap declared_names c.requires.given.kept.tables
    ∙ ap (names_of_step h.contents.entries s.objects) (sym c.requires.edited))
    c.redecide.ensures.counted
