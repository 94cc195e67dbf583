use Rattle.symres_table.proofs.Common.{IsNamed, Numbered, SpellsSeen, Symbol, [], ap, false, get_or, is_local, is_seen}
use Rattle.symres_table.proofs.Common.{not, subst, sym, take, take_more, true, ◌++◌, ◌+◌, ◌∙◌, ◌∷◌, ◌≡◌}
use Rattle.symres_table.proofs.Naming.{nothing, visible_is}
use Rattle.symres_table.proofs.Spelling.{symbol_is, spelled_seen, seen_skip, seen_push, no_symbol}
use Rattle.symres_table.proofs.lists.add_seen.Goals as goal

pub returns-then-not-is_visible-clause-spelled : goal.returns-then-not-is_visible-clause-spelled
returns-then-not-is_visible-clause-spelled c = λ p.
    let xs = c.args.object.now.symbols in
    let symbol = get_or c.symbols.result.now c.args.number nothing.symbol in
    let is : symbol ≡ (get_or xs c.args.number no_symbol).symbol =
    symbol_is c.symbols.result.now xs c.args.number nothing.symbol no_symbol c.symbols.ensures.value
    c.requires.within in
    let seen : is_seen (get_or xs c.args.number no_symbol) ≡ false =
    ap (λ (y : Symbol). not (is_local y.binding)) (sym is) ∙ sym c.if-not-is_visible.ensures in
    subst (SpellsSeen c.args.known.now.slots c.args.list.now.items)
    (sym (take_more xs c.args.number no_symbol c.requires.within))
    (seen_skip c.args.known.now.slots c.args.list.now.items (take c.args.number xs)
    (get_or xs c.args.number no_symbol) seen p)

pub returns-clause-spelled : goal.returns-clause-spelled
returns-clause-spelled c = λ p.
    let xs = c.args.object.now.symbols in
    let symbol = get_or c.symbols.result.now c.args.number nothing.symbol in
    let new = c.add_name.new.known.slots in
    let s : Numbered = record { name = c.in_ok-name.name; number = c.args.number; symbol = symbol } in
    let is : symbol ≡ (get_or xs c.args.number no_symbol).symbol =
    symbol_is c.symbols.result.now xs c.args.number nothing.symbol no_symbol c.symbols.ensures.value
    c.requires.within in
    let visible : not (is_local symbol.binding) ≡ true = sym c.if-not-is_visible.ensures in
    let seen : is_seen (get_or xs c.args.number no_symbol) ≡ true =
    ap (λ (y : Symbol). not (is_local y.binding)) (sym is) ∙ visible in
    let named : IsNamed new s.name (get_or xs c.args.number no_symbol).name = c.in_ok-name.ensures.ok no_symbol in
    let local : is_local (get_or xs c.args.number no_symbol).symbol.binding ≡ false = visible_is _ (sym seen) in
    subst (λ ys. SpellsSeen new ys (take (c.args.number + 1) xs)) (sym c.in_ok-push.ensures.items)
    (subst (SpellsSeen new (c.args.list.now.items ++ s ∷ []))
    (sym (take_more xs c.args.number no_symbol c.requires.within))
    (seen_push c.args.known.now.slots new c.args.list.now.items (take c.args.number xs) s
    (get_or xs c.args.number no_symbol) c.add_name.ensures.kept seen
    (spelled_seen new s (get_or xs c.args.number no_symbol) is local named) (λ v.
    ((get_or xs c.args.number no_symbol).name, named)) visible p))
