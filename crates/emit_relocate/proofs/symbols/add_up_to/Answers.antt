use Rattle.emit_relocate.proofs.Common.{AddsSome, AddsSymbols, Bool, IfOk-weaker, List, [], ap, append-nil, cond}
use Rattle.emit_relocate.proofs.Common.{ends_with, false, keyed_names, subst, sym, true, with_name, ℕ, ◌++◌, ◌∙◌, ◌∷◌}
use Rattle.emit_relocate.proofs.Common.{◌≡◌}
use Rattle.emit_relocate.proofs.Defined.{symbols_join}
use Rattle.emit_relocate.proofs.Picking.{adds_join}
use Rattle.emit_relocate.proofs.symbols.add_up_to.Goals as goal

last_has_it : (names : List (List ℕ)) (name : List ℕ) → ends_with names name ≡ true → names ≡ with_name names name
last_has_it names name e =
    sym (append-nil names) ∙ ap (λ (b : Bool). names ++ cond b [] (name ∷ [])) (sym e)

last_is_another : (names : List (List ℕ)) (name : List ℕ) → ends_with names name ≡ false
    → names ++ name ∷ [] ≡ with_name names name
last_is_another names name e = ap (λ (b : Bool). names ++ cond b [] (name ∷ [])) (sym e)

pub returns-then-ends_with-clause-symbols : goal.returns-then-ends_with-clause-symbols
returns-then-ends_with-clause-symbols c = λ p s h.
    subst (λ (ns : List (List ℕ)). AddsSymbols p s ns c.args.list.now.items c.add_keyed.new.list.items)
    (last_has_it (keyed_names c.args.before.now) c.args.name.now (sym c.ends_with.ensures ∙ c.if-ends_with.true))
    (c.in_ok-sizes.ensures.symbols p s h)

pub returns-then-ends_with-clause-picked : goal.returns-then-ends_with-clause-picked
returns-then-ends_with-clause-picked c =
    subst (λ (ns : List (List ℕ)). AddsSome ns c.args.list.now.items c.add_keyed.new.list.items)
    (last_has_it (keyed_names c.args.before.now) c.args.name.now (sym c.ends_with.ensures ∙ c.if-ends_with.true))
    c.in_ok-sizes.ensures.picked

pub returns-clause-symbols : goal.returns-clause-symbols
returns-clause-symbols c =
    let names = keyed_names c.args.before.now in
    IfOk-weaker c.add_given.result _ _
    (λ t e p s h.
    subst (λ (ns : List (List ℕ)). AddsSymbols p s ns c.args.list.now.items c.add_given.new.list.items)
    (last_is_another names c.args.name.now (sym c.ends_with.ensures ∙ c.if-ends_with.false))
    (symbols_join p s names (c.args.name.now ∷ []) c.args.list.now.items c.add_keyed.new.list.items
    c.add_given.new.list.items (c.in_ok-sizes.ensures.symbols p s h) (e p s h)))
    c.add_given.ensures.symbols

pub returns-clause-facts : goal.returns-clause-facts
returns-clause-facts c =
    IfOk-weaker c.add_given.result _ _ (λ t e p s h all. e p s h (c.in_ok-sizes.ensures.facts p s h all))
    c.add_given.ensures.facts

pub returns-clause-picked : goal.returns-clause-picked
returns-clause-picked c =
    let names = keyed_names c.args.before.now in
    IfOk-weaker c.add_given.result _ _
    (λ t e.
    subst (λ (ns : List (List ℕ)). AddsSome ns c.args.list.now.items c.add_given.new.list.items)
    (last_is_another names c.args.name.now (sym c.ends_with.ensures ∙ c.if-ends_with.false))
    (adds_join names (c.args.name.now ∷ []) c.args.list.now.items c.add_keyed.new.list.items
    c.add_given.new.list.items c.in_ok-sizes.ensures.picked e))
    c.add_given.ensures.picked

pub returns-clause-sizes : goal.returns-clause-sizes
returns-clause-sizes c =
    IfOk-weaker c.add_given.result _ _ (λ t e p s h was. e p s h (c.in_ok-sizes.ensures.sizes p s h was))
    c.add_given.ensures.sizes
