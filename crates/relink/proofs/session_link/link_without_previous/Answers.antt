use Rattle.relink.proofs.Common.{IsSymbolTable, Project, Table, ap, listing_of, map, project_of, subst, sym, ◌∙◌}
use Rattle.relink.proofs.Following.{tables_of_objects}
use Rattle.relink.proofs.session_link.link_without_previous.Goals as goal

pub link_keyed-requires-clause-symbol_table : goal.link_keyed-requires-clause-symbol_table
link_keyed-requires-clause-symbol_table c =
    let l = (listing_of c.args.project.now) in
    subst (λ (p : Project). IsSymbolTable p c.args.symbol_table.now) (sym c.view-view.ensures)
    (c.names_kept.ensures (project_of l) c.requires.kept.names
    (tables_of_objects l.entries ∙ ap (map (λ (t : Table). t.1)) (sym c.requires.kept.tables)))
