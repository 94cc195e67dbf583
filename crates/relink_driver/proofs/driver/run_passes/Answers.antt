use Rattle.relink_driver.proofs.Common.{AreDirtyObjects, AreNameValues, AreSymbolValues, Layout, err_from_is_err_and}
use Rattle.relink_driver.proofs.Common.{known_link, project_of, subst, sym, ◌∙◌}
use Rattle.relink_driver.proofs.Beside.{has_old, one_placement}
use Rattle.relink_driver.proofs.Reading.{ends_reading, reads_ending, reads_then}
use Rattle.relink_driver.proofs.ValuesBySource.{sources_of}
use Rattle.relink_driver.proofs.EarlyEnds.{ends_shown}
use Rattle.relink_driver.proofs.Working.{are_drawn, link_work, of_short}
use Rattle.relink_driver.proofs.driver.run_passes.Goals as goal

pub assign_addresses-requires-clause-previous : goal.assign_addresses-requires-clause-previous
assign_addresses-requires-clause-previous c = has_old (project_of c.args.context) _ _ c.requires.previous

pub compute_values-requires-clause-known : goal.compute_values-requires-clause-known
compute_values-requires-clause-known c =
    let a = c.in_ok-indexed_layout.ensures.good in
    record {
      layout = a.layout;
      link_layout = a.link_layout;
      view = c.in_ok-view.ensures a.layout (c.in_ok-given.ensures.values a.layout a.link_layout)
          (a.indexed_layout a.layout a.link_layout);
      rest = a.rest;
    }

pub evaluate_relocations-requires-clause-symbols : goal.evaluate_relocations-requires-clause-symbols
evaluate_relocations-requires-clause-symbols c =
    λ s link_layout.
    let p = project_of c.args.context in
    let h = c.in_ok-name_values.ensures.good.placed in
    let k = h.known in
    let a = c.in_ok-indexed_layout.ensures.good in
    subst (λ (z : Layout). AreSymbolValues p z c.in_ok-symbols.symbols)
    (one_placement p k.layout s k.link_layout.placed link_layout.placed)
    (c.in_ok-symbols.ensures k.layout h.symbol_table
    (sources_of p k.layout h.symbol_table c.in_ok-view.view _ k.view
    (c.in_ok-view.ensures k.layout (c.in_ok-given.ensures.values k.layout k.link_layout)
    (a.indexed_layout k.layout k.link_layout)) c.requires.context.symbol_table
    (a.indexed_layout k.layout k.link_layout)
    (subst (AreNameValues (known_link p k.layout h.symbol_table)) (sym c.deref-2.ensures.value) h.values.names)))

pub evaluate_relocations-requires-clause-beside : goal.evaluate_relocations-requires-clause-beside
evaluate_relocations-requires-clause-beside c =
    λ s link_layout.
    let p = project_of c.args.context in
    let h = c.in_ok-name_values.ensures.good.placed in
    let k = h.known in
    let a = c.in_ok-indexed_layout.ensures.good in
    let symbols : AreSymbolValues p s c.in_ok-symbols.symbols =
    subst (λ (z : Layout). AreSymbolValues p z c.in_ok-symbols.symbols)
    (one_placement p k.layout s k.link_layout.placed link_layout.placed)
    (c.in_ok-symbols.ensures k.layout h.symbol_table
    (sources_of p k.layout h.symbol_table c.in_ok-view.view _ k.view
    (c.in_ok-view.ensures k.layout (c.in_ok-given.ensures.values k.layout k.link_layout)
    (a.indexed_layout k.layout k.link_layout)) c.requires.context.symbol_table
    (a.indexed_layout k.layout k.link_layout)
    (subst (AreNameValues (known_link p k.layout h.symbol_table)) (sym c.deref-2.ensures.value) h.values.names))) in
    record {
      indexed_layout = c.in_ok-indexed_layout.ensures.good.indexed_layout s link_layout;
      previous = has_old p _ _ c.requires.previous;
      dirty = λ old previous. subst (AreDirtyObjects old p s) (sym c.deref-3.ensures.value)
          (c.in_ok-dirty.ensures old s previous symbols);
    }

pub returns-clause-ended : goal.returns-clause-ended
returns-clause-ended c =
    let p = project_of c.args.context in
    let all = c.in_ok-check_assertions.ensures.good in
    let f = all.filled in
    let h = f.short.placed in
    let k = h.known in
    let s = k.layout in
    let v = c.in_ok-name_values.ensures.good.placed in
    let w = v.known in
    let a = c.in_ok-indexed_layout.ensures.good in
    let same = c.in_ok-draw_output.ensures.image s k.link_layout in
    record {
      layout = s;
      link = ends_shown c.args.context.with_map p s _ _ same
          (c.in_ok-map.ensures s h.symbol_table k.link_layout h.values) all.rest;
      table = record {
        good = f.good;
        names = f.names;
        indexed_layout = c.in_ok-indexed_layout.ensures.good.indexed_layout s k.link_layout;
        symbols = subst (λ (z : Layout). AreSymbolValues p z c.in_ok-symbols.symbols)
            (one_placement p w.layout s w.link_layout.placed k.link_layout.placed)
            (c.in_ok-symbols.ensures w.layout v.symbol_table
            (sources_of p w.layout v.symbol_table c.in_ok-view.view _ w.view
            (c.in_ok-view.ensures w.layout (c.in_ok-given.ensures.values w.layout w.link_layout)
            (a.indexed_layout w.layout w.link_layout)) c.requires.context.symbol_table
            (a.indexed_layout w.layout w.link_layout)
            (subst (AreNameValues (known_link p w.layout v.symbol_table)) (sym c.deref-2.ensures.value)
            v.values.names)));
        layout = k.link_layout.layout ∙ of_short p s f.short.length;
        link = all.rest;
      };
      image = same;
    }

pub returns-clause-reads : goal.returns-clause-reads
returns-clause-reads c = reads_then _ _ _ c.in_ok-link_layout.ensures.reads
    (reads_then _ _ _ c.in_ok-fields.ensures.reads c.in_ok-draw_output.ensures.reads)

pub returns-clause-worked : goal.returns-clause-worked
returns-clause-worked c =
    let f = c.in_ok-check_assertions.ensures.good.filled in
    let k = f.short.placed.known in
    link_work (project_of c.args.context) _ _ _ _ c.in_ok-link_layout.ensures.counted
    (are_drawn (project_of c.args.context) k.layout _ c.in_ok-fields.fields _ _ _ k.link_layout.layout f.good
    (c.in_ok-fields.ensures.counted k.layout k.link_layout)
    (c.in_ok-draw_output.ensures.counted k.layout k.link_layout))

pub returns-in_err-fields-clause-early : goal.returns-in_err-fields-clause-early
returns-in_err-fields-clause-early c =
    let p = err_from_is_err_and c.from_residual-in_err-fields.result c.from_residual-in_err-fields.ensures.1 in
    rw (p.1, p.2) (reads_ending _ _ _ c.in_err-fields.field-0.0 c.in_ok-link_layout.ensures.reads
    c.in_err-fields.ensures.early)

pub returns-in_err-check_assertions-clause-early : goal.returns-in_err-check_assertions-clause-early
returns-in_err-check_assertions-clause-early c =
    let p = err_from_is_err_and c.from_residual-in_err-check_assertions.result
    c.from_residual-in_err-check_assertions.ensures.1 in
    rw (p.1, p.2) (ends_reading _ _ c.in_err-check_assertions.field-0.0
    (reads_then _ _ _ c.in_ok-link_layout.ensures.reads c.in_ok-fields.ensures.reads))
