use Rattle.relink.proofs.Common.{IsSymbolTable, Project, SymbolTableState, Table, ap, map, project_of, refl, subst, sym}
use Rattle.relink.proofs.Common.{◌∙◌}
use Rattle.relink.proofs.Followed.{of_some}
use Rattle.relink.proofs.Following.{tables_of_objects}
use Rattle.relink.proofs.session_link.link_next.Goals as goal

pub returns-in-Some-clause-updated : goal.returns-in-Some-clause-updated
returns-in-Some-clause-updated c =
    let l = c.args.next.now in (
      of_some _ c.in_ok-text.field-0 c.in-Some.text c.in-Some.is c.in_ok-text.ensures (project_of l)
          (c.names_kept.ensures (project_of l) c.requires.kept.names
          (tables_of_objects l.entries ∙ ap (map (λ (t : Table). t.1)) (sym c.requires.kept.tables)))
          (sym c.script.ensures) (sym c.options.ensures),
      refl,
    )

pub link_keyed-requires-clause-symbol_table : goal.link_keyed-requires-clause-symbol_table
link_keyed-requires-clause-symbol_table c =
    let l = c.args.next.now in
    subst (λ (t : SymbolTableState). IsSymbolTable c.view-view.result t)
    (sym (c.put_in_order.ensures ∙ c.index_places.ensures))
    (subst (λ (p : Project). IsSymbolTable p c.args.symbol_table.now) (sym c.view-view.ensures)
    (c.names_kept.ensures (project_of l) c.requires.kept.names
    (tables_of_objects l.entries ∙ ap (map (λ (t : Table). t.1)) (sym c.requires.kept.tables))))
