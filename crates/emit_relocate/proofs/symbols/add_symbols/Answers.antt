use Rattle.emit_relocate.proofs.Common.{AddsSome, AddsSymbols, All, All-drop, All-take, AreUp, Bor, HasFacts}
use Rattle.emit_relocate.proofs.Common.{IfOk-weaker, IsNamed, IsPlaceAmong, List, NamedKey, OutputSymbol, [], ap, arith}
use Rattle.emit_relocate.proofs.Common.{drop, get_or, get_or_default, keyed_names, length, length-drop, plus_symbols}
use Rattle.emit_relocate.proofs.Common.{subst, sym, take, take_all, texts, with_name, ℕ, ◌++◌, ◌-◌, ◌<◌, ◌≡◌, ◌≤◌}
use Rattle.emit_relocate.proofs.Defined.{symbols_are, symbols_join, symbols_none}
use Rattle.emit_relocate.proofs.Listing.{declared_of}
use Rattle.emit_relocate.proofs.Picking.{added_in_order, adds_join, adds_none}
use Rattle.emit_relocate.proofs.NamesAscending.{names_asc, pairs_asc}
use Rattle.emit_relocate.proofs.Walking.{all_walked, none_walked, rest_up, walked_next}
use Rattle.emit_relocate.proofs.symbols.add_symbols.Goals as goal

abbrev no_text : Bor (List ℕ)
no_text = record { ref_ptr = (0, 0); now = [] }

-- what is left, as the code slices it
whole : (xs : List NamedKey) (at : ℕ) → take (length xs - at) (drop at xs) ≡ drop at xs
whole xs at = take_all (length xs - at) (drop at xs) (let long = length-drop at xs in omega (arith, long))

pub loop-name-init : goal.loop-name-init
loop-name-init c =
    let list = c.args.list.now.items in
    record {
      within = omega arith;
      done = (
        [],
        none_walked (keyed_names c.args.sorted.now) (texts c.args.given.now)
            (pairs_asc (λ (x : NamedKey). x.name.now) c.args.sorted.now c.requires.sorted.order)
            (names_asc (texts c.args.given.now) c.requires.given.order),
        adds_none list,
        λ p s h. symbols_none p s list,
      );
      facts = λ p s h all. all;
      sizes = λ p s h was. was;
    }

pub count_up_to-count-requires : goal.count_up_to-count-requires
count_up_to-count-requires c =
    subst AreUp (sym (whole c.args.sorted.now c.loop-name.at))
    (rest_up c.args.sorted.now c.loop-name.at c.requires.sorted.order)

pub add_up_to-requires : goal.add_up_to-requires
add_up_to-requires c =
    let sorted = c.args.sorted.now in
    let at = c.loop-name.at in
    let count = c.count_up_to-count.result in
    let P : NamedKey → Type 0 =
    λ (x : NamedKey). IsNamed c.args.sources.now.symbol_table.now.names x.key.0 x.name.now in
    All-take P count (take (length sorted - at) (drop at sorted))
    (All-take P (length sorted - at) (drop at sorted) (All-drop P at sorted c.requires.sorted.named))

pub loop-name-preserved : goal.loop-name-preserved
loop-name-preserved c =
    let sorted = c.args.sorted.now in
    let given = c.args.given.now in
    let at = c.loop-name.at in
    let k = c.loop-name.name-index in
    let count = c.count_up_to-count.result in
    let left : List NamedKey = drop at sorted in
    let many = length-drop at sorted in
    let same = whole sorted at in
    let inside : count ≤ length left = subst (λ l. count ≤ length l) same c.count_up_to-count.ensures.within in
    let within : k < length given = omega (arith, c.loop-name-test.true) in
    let x : Bor (List ℕ) = get_or given k no_text in
    let place : IsPlaceAmong x.now left count =
    subst (λ l. IsPlaceAmong x.now l count) same c.count_up_to-count.ensures.place in
    let old = c.args.list.now.items in
    let now = c.loop-name.list.items in
    let new = c.add_up_to.new.list.items in
    let names : List (List ℕ) = with_name (keyed_names (take count left)) x.now in
    let was = c.loop-name.invariant.done in
    let run : (l : List NamedKey) → Type 0 =
    λ l. AddsSome (with_name (keyed_names (take count l)) x.now) now new in
    record {
      within = omega (arith, inside, many, c.loop-name.invariant.within);
      done = (
        was.0 ++ names,
        walked_next sorted given at count k x was.0 within (get_or_default given k no_text x within) place was.1,
        adds_join was.0 names old now new was.2 (subst run same c.in_ok-sizes.ensures.picked),
        λ p s h.
            symbols_join p s was.0 names old now new (was.3 p s h)
            (subst (λ (l : List NamedKey). AddsSymbols p s (with_name (keyed_names (take count l)) x.now) now new) same
            (c.in_ok-sizes.ensures.symbols p s h)),
      );
      facts = λ p s h all. c.in_ok-sizes.ensures.facts p s h (c.loop-name.invariant.facts p s h all);
      sizes = λ p s h e. c.in_ok-sizes.ensures.sizes p s h (c.loop-name.invariant.sizes p s h e);
    }

pub add_keyed-requires : goal.add_keyed-requires
add_keyed-requires c =
    let sorted = c.args.sorted.now in
    let at = c.loop-name.at in
    let P : NamedKey → Type 0 =
    λ (x : NamedKey). IsNamed c.args.sources.now.symbol_table.now.names x.key.0 x.name.now in
    All-take P (length sorted - at) (drop at sorted) (All-drop P at sorted c.requires.sorted.named)

pub returns-clause-symbols : goal.returns-clause-symbols
returns-clause-symbols c =
    let sorted = c.args.sorted.now in
    let given = c.args.given.now in
    let at = c.loop-name.at in
    let was = c.loop-name.invariant.done in
    let left : List (List ℕ) = keyed_names (drop at sorted) in
    let old = c.args.list.now.items in
    let now = c.loop-name.list.items in
    let new = c.add_keyed.new.list.items in
    IfOk-weaker c.add_keyed.result _ _
    (λ t e p s h.
    symbols_are p s (was.0 ++ left) old new was.1.keyed_up
    (λ z i.
    all_walked (keyed_names sorted) (texts given) left given c.loop-name.name-index was.0
    (omega (arith, c.loop-name-test.false)) was.1 z
    (declared_of p c.args.sources.now.symbol_table.now sorted c.args.sources.now.script.now (texts given)
    c.requires.sorted c.requires.given h.symbol_table h.script z i))
    c.requires.empty
    (symbols_join p s was.0 left old now new (was.3 p s h)
    (subst (λ (l : List NamedKey). AddsSymbols p s (keyed_names l) now new) (whole sorted at) (e p s h))))
    c.add_keyed.ensures.symbols

pub returns-clause-facts : goal.returns-clause-facts
returns-clause-facts c =
    IfOk-weaker c.add_keyed.result _ _
    (λ t e p s h.
    e p s h
    (c.loop-name.invariant.facts p s h
    (subst (λ (xs : List OutputSymbol). All (HasFacts p s) xs) (sym c.requires.empty)
    (λ k d l. absurd (omega (arith, l))))))
    c.add_keyed.ensures.facts

pub returns-clause-order : goal.returns-clause-order
returns-clause-order c =
    let sorted = c.args.sorted.now in
    let was = c.loop-name.invariant.done in
    let at = c.loop-name.at in
    let left : List (List ℕ) = keyed_names (drop at sorted) in
    let new = c.add_keyed.new.list.items in
    IfOk-weaker c.add_keyed.result _ _
    (λ t e.
    added_in_order (was.0 ++ left) c.args.list.now.items new was.1.keyed_up c.requires.empty
    (adds_join was.0 left c.args.list.now.items c.loop-name.list.items new was.2
    (subst (λ (l : List NamedKey). AddsSome (keyed_names l) c.loop-name.list.items new) (whole sorted at) e)))
    c.add_keyed.ensures.picked

pub returns-clause-sizes : goal.returns-clause-sizes
returns-clause-sizes c =
    IfOk-weaker c.add_keyed.result _ _
    (λ t e p s h.
    e p s h
    (c.loop-name.invariant.sizes p s h (sym (ap (plus_symbols (record { count = 0; names = 0 })) c.requires.empty))))
    c.add_keyed.ensures.sizes
