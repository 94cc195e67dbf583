use Rattle.relink.proofs.Common.{AreDecisionsOf, AreTablesOf, List, Matches, Statement, listing_of, subst, sym}
use Rattle.relink.proofs.Following.{tables_of_empty}
use Rattle.relink.proofs.session.tables_of_empty.Goals as goal

pub returns : goal.returns
returns c =
    let a = c.in_ok-symbol_table.symbol_table in
    subst (λ (ms : List Matches). AreTablesOf (listing_of c.args.project.now) a ms) (sym c.new-2.ensures.items)
    (tables_of_empty (listing_of c.args.project.now) a c.requires c.in_ok-symbol_table.ensures.objects
    (subst (λ (script : List Statement). AreDecisionsOf script a.kept) c.script.ensures
    c.in_ok-symbol_table.ensures.kept))
