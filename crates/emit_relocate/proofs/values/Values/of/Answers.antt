use Rattle.emit_relocate.proofs.Common.{KnownLink, List, SymbolRow, ap, known_link, map, shown_symbol, subst, sym, ◌∙◌}
use Rattle.emit_relocate.specs.NameRows.{AreResolved}
use Rattle.emit_relocate.proofs.values.Values.of.Goals as goal

pub returns : goal.returns
returns c =
    λ s given link.
    let l : KnownLink = known_link c.args.project.now s c.args.symbol_table.now in
    let symbols =
    c.in_ok-sizes.ensures.symbols c.args.project.now s (record {
      symbol_table = c.requires.symbol_table;
      script = sym c.script-script.ensures;
      rows = subst (λ (xs : List SymbolRow). AreResolved l xs) (sym c.deref.ensures.value)
          (c.in_ok-rows.ensures.rows l link);
      given = given;
    }) in
    record {
      names = c.in_ok-rows.ensures.values l link;
      entry = c.entry_value-entry.ensures s
          (ap (map (shown_symbol c.args.project.now)) (c.of.ensures ∙ c.deref-4.ensures.value) ∙ symbols);
      symbols = symbols;
      facts = c.in_ok-sizes.ensures.facts c.args.project.now s (record {
        symbol_table = c.requires.symbol_table;
        script = sym c.script-script.ensures;
        rows = subst (λ (xs : List SymbolRow). AreResolved l xs) (sym c.deref.ensures.value)
            (c.in_ok-rows.ensures.rows l link);
        given = given;
      });
      sizes = c.in_ok-sizes.ensures.sizes c.args.project.now s (record {
        symbol_table = c.requires.symbol_table;
        script = sym c.script-script.ensures;
        rows = subst (λ (xs : List SymbolRow). AreResolved l xs) (sym c.deref.ensures.value)
            (c.in_ok-rows.ensures.rows l link);
        given = given;
      });
    }
