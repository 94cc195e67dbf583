use Rattle.emit_relocate.proofs.Common.{AddsSome, AddsSymbols, AreSources, KeepsCount, KeepsFacts, Layout, Project}
use Rattle.emit_relocate.proofs.Common.{keyed_names, length, take, vec_capacity, vec_len, ◌+◌, ◌≤◌}
use Rattle.emit_relocate.proofs.symbols.add_keyed.Given as goal

-- the symbols of the names before this one are added, and there is room for all
abbrev pub invariant-loop-named : goal.invariant-loop-named
invariant-loop-named l = record {
  symbols : (p : Project) (s : Layout) → AreSources p s l.sources
      → AddsSymbols p s (keyed_names (take l.named-index l.names)) l.fn.list.items l.list.items;
  facts : (p : Project) (s : Layout) → AreSources p s l.sources → KeepsFacts p s l.fn.list.items l.list.items;
  picked : AddsSome (keyed_names (take l.named-index l.names)) l.fn.list.items l.list.items;
  sizes : (p : Project) (s : Layout) → AreSources p s l.sources
      → KeepsCount l.fn.counted l.sizes l.fn.list.items l.list.items;
  len : vec_len l.list ≤ vec_len l.fn.list + l.named-index;
  room : vec_len l.fn.list + length l.names ≤ vec_capacity l.list;
}
