-- An entry more, and a name.
use Rattle.emit_image.proofs.Common.{List, ap, length, sym, symbol_table_of, ℕ, ◌++◌, ◌∙◌}
use Rattle.emit_image.proofs.Entries.{entry_more, names_more}
use Rattle.emit_image.proofs.symbols.SymbolTables.push.Goals as goal

pub returns : goal.returns
returns c = λ xs are. record {
  entries = c.in_ok-push.ensures
      ∙ ap (λ (bs : List ℕ). bs ++ c.symbol_entry.result) are.entries
      ∙ ap (λ (bs : List ℕ). symbol_table_of xs ++ bs) c.symbol_entry.ensures
      ∙ sym (entry_more xs c.args.x.now _ (c.len-at.ensures ∙ ap (λ (ns : List ℕ). length ns) are.names));
  names = names_more xs c.args.x.now _ _ are.names c.in_ok-push-2.ensures;
}
