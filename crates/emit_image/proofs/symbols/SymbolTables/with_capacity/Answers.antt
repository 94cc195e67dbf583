-- The null entry, and no names.
use Rattle.emit_image.proofs.Common.{List, ap, replicate, ℕ, ◌++◌, ◌∙◌}
use Rattle.emit_image.proofs.Entries.{no_entries}
use Rattle.emit_image.proofs.symbols.SymbolTables.with_capacity.Goals as goal

pub returns : goal.returns
returns c = record {
  entries = no_entries _
      (c.in_ok-push.ensures ∙ ap (λ (bs : List ℕ). bs ++ replicate 24 0) c.in_ok-entries.ensures);
  names = c.in_ok-names.ensures;
}
