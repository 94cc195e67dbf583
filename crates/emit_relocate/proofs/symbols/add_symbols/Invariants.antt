use Rattle.emit_relocate.proofs.Common.{AddsSome, AddsSymbols, AreSources, KeepsCount, KeepsFacts, Layout, List}
use Rattle.emit_relocate.proofs.Common.{Project, drop, keyed_names, length, texts, ℕ, ◌≤◌}
use Rattle.emit_relocate.proofs.Walking.{Walked}
use Rattle.emit_relocate.proofs.symbols.add_symbols.Given as goal

-- some names are seen to: those of the script before this one, and those with keys up to a place
abbrev pub invariant-loop-name : goal.invariant-loop-name
invariant-loop-name l = record {
  within : l.at ≤ length l.sorted;
  done : (done : List (List ℕ))
      × Walked (keyed_names l.sorted) (texts l.given) (keyed_names (drop l.at l.sorted))
      (texts (drop l.name-index l.given)) done
      × AddsSome done l.fn.list.items l.list.items
      × ((p : Project) (s : Layout) → AreSources p s l.sources → AddsSymbols p s done l.fn.list.items l.list.items);
  facts : (p : Project) (s : Layout) → AreSources p s l.sources → KeepsFacts p s l.fn.list.items l.list.items;
  sizes : (p : Project) (s : Layout) → AreSources p s l.sources
      → KeepsCount (record { count = 0; names = 0 }) l.sizes l.fn.list.items l.list.items;
}
