use Rattle.emit_relocate.proofs.Common.{AddsSome, AddsSymbols, KeepsFacts, List, NamedKey, OutputSymbol, [], ap, arith}
use Rattle.emit_relocate.proofs.Common.{drop, get_or, keyed_names, length, plus_symbols, subst, sym, take, take_all, ℕ}
use Rattle.emit_relocate.proofs.Common.{◌++◌, ◌+◌, ◌<◌, ◌∙◌, ◌∷◌, ◌≡◌}
use Rattle.emit_relocate.proofs.Counted.{counts_more}
use Rattle.emit_relocate.proofs.Defined.{symbols_join, symbols_none}
use Rattle.emit_relocate.proofs.Giving.{no_key}
use Rattle.emit_relocate.proofs.Listing.{names_more}
use Rattle.emit_relocate.proofs.Picking.{adds_at_most, adds_join, adds_none}
use Rattle.emit_relocate.proofs.symbols.add_keyed.Goals as goal

pub loop-named-init : goal.loop-named-init
loop-named-init c =
    let was : c.args.list.now.items ≡ c.reserve.new.list.items = sym c.reserve.ensures.items in
    record {
      symbols = λ p s h.
          subst (AddsSymbols p s [] c.args.list.now.items) was (symbols_none p s c.args.list.now.items);
      facts = λ p s h. subst (KeepsFacts p s c.args.list.now.items) was (λ all. all);
      picked = subst (AddsSome [] c.args.list.now.items) was (adds_none c.args.list.now.items);
      sizes = λ p s h e. e ∙ ap (plus_symbols (record { count = 0; names = 0 })) was;
      len = omega (arith, c.reserve.ensures.len);
      room = omega (arith, c.reserve.ensures.len, c.in_ok-reserve.ensures.ok);
    }

pub loop-named-preserved : goal.loop-named-preserved
loop-named-preserved c =
    let xs = c.args.names.now in
    let i = c.loop-named.named-index in
    let name : List ℕ = (get_or xs i no_key).name.now in
    let first : List (List ℕ) = keyed_names (take i xs) in
    let within : i < length xs = omega (arith, c.loop-named-test.true) in
    let old = c.args.list.now.items in
    let now = c.loop-named.list.items in
    let new = c.add_named.new.list.items in
    let more : keyed_names (take (i + 1) xs) ≡ first ++ name ∷ [] = names_more xs i within in
    record {
      symbols = λ p s h.
          subst (λ (ns : List (List ℕ)). AddsSymbols p s ns old new) (sym more)
          (symbols_join p s first (name ∷ []) old now new (c.loop-named.invariant.symbols p s h)
          (c.add_named.ensures.symbol p s h));
      facts = λ p s h all. c.add_named.ensures.facts p s h (c.loop-named.invariant.facts p s h all);
      picked =
          subst (λ (ns : List (List ℕ)). AddsSome ns old new) (sym more)
          (adds_join first (name ∷ []) old now new c.loop-named.invariant.picked
          (adds_at_most name now new c.add_named.ensures.name));
      sizes = λ p s h was.
          counts_more p s (name ∷ []) now new c.len-count.result (record { count = 0; names = 0 }) c.loop-named.sizes _
          (c.add_named.ensures.symbol p s h) (omega (arith, c.len-count.ensures, c.loop-named.list.ok.0))
          (c.loop-named.invariant.sizes p s h was)
          (c.in_ok-sizes.ensures
          ∙ ap (λ (ys : List OutputSymbol). plus_symbols c.loop-named.sizes (drop c.len-count.result ys))
          c.deref.ensures.value);
      len = omega (arith, c.add_named.ensures.room.0, c.loop-named.invariant.len);
      room = omega (arith, c.add_named.ensures.room.1, c.loop-named.invariant.room);
    }

pub add_named-requires-clause-room : goal.add_named-requires-clause-room
add_named-requires-clause-room c =
    omega (arith, c.loop-named.invariant.len, c.loop-named.invariant.room, c.loop-named-test.true)

pub returns-clause-symbols : goal.returns-clause-symbols
returns-clause-symbols c = λ p s h.
    subst
    (λ (xs : List NamedKey). AddsSymbols p s (keyed_names xs) c.args.list.now.items c.loop-named.list.items)
    (take_all c.loop-named.named-index c.args.names.now (omega (arith, c.loop-named-test.false)))
    (c.loop-named.invariant.symbols p s h)

pub returns-clause-facts : goal.returns-clause-facts
returns-clause-facts c = c.loop-named.invariant.facts

pub returns-clause-picked : goal.returns-clause-picked
returns-clause-picked c =
    subst (λ (xs : List NamedKey). AddsSome (keyed_names xs) c.args.list.now.items c.loop-named.list.items)
    (take_all c.loop-named.named-index c.args.names.now (omega (arith, c.loop-named-test.false)))
    c.loop-named.invariant.picked

pub returns-clause-sizes : goal.returns-clause-sizes
returns-clause-sizes c = c.loop-named.invariant.sizes
