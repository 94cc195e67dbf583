-- A symbol with a value is added.
use Rattle.emit.proofs.Common.{ap, is_weak, refl, sym, ◌∙◌}
use Rattle.emit_relocate.specs.declared.name_row.SymbolFacts.{SymbolFacts}
use Rattle.emit.proofs.OfSymbols.{one_symbol}
use Rattle.emit.proofs.symbols.add_symbol.Goals as goal

pub returns-in_ok-push-in-Number : goal.returns-in_ok-push-in-Number
returns-in_ok-push-in-Number c p s xs facts h =
    one_symbol p s xs c.args.symbol.now c.in-Number.value _ c.args.tables.now _ (sym c.value.ensures ∙ c.in-Number.is)
    c.in_ok-push-in-Number.ensures facts refl (c.is_weak.ensures ∙ ap is_weak c.definer.ensures)
    (ap (λ (f : SymbolFacts). f.kind) c.facts-facts.ensures)
    (ap (λ (f : SymbolFacts). f.section) c.facts-facts.ensures) refl
    (ap (λ (f : SymbolFacts). f.size) c.facts-facts.ensures) h
