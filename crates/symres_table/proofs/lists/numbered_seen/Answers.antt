use Rattle.symres_table.proofs.Common.{IsNamed, Symbol, ap, arith, get_or, is_local, is_seen, not, subst, sym, true}
use Rattle.symres_table.proofs.Common.{◌∙◌, ◌≡◌}
use Rattle.symres_table.proofs.Naming.{nothing, visible_is}
use Rattle.symres_table.proofs.VisibleSymbols.{seen_named, seen_within}
use Rattle.symres_table.proofs.Spelling.{symbol_is, spelled_seen, no_symbol}
use Rattle.symres_table.proofs.lists.numbered_seen.Goals as goal

pub name_in-requires : goal.name_in-requires
name_in-requires c =
    let xs = c.args.object.now.symbols in
    let symbol = get_or c.symbols.result.now c.args.number nothing.symbol in
    let is : symbol ≡ (get_or xs c.args.number no_symbol).symbol =
    symbol_is c.symbols.result.now xs c.args.number nothing.symbol no_symbol c.symbols.ensures.value
    c.requires.within in
    let seen : is_seen (get_or xs c.args.number no_symbol) ≡ true =
    ap (λ (y : Symbol). not (is_local y.binding)) (sym is) ∙ sym c.if-not-is_visible.ensures in
    omega (arith, c.requires.at, c.requires.seen, seen_within xs c.args.number no_symbol c.requires.within seen)

pub returns-clause-spelled : goal.returns-clause-spelled
returns-clause-spelled c = λ names d p.
    let xs = c.args.object.now.symbols in
    let symbol = get_or c.symbols.result.now c.args.number nothing.symbol in
    let is : symbol ≡ (get_or xs c.args.number d).symbol =
    symbol_is c.symbols.result.now xs c.args.number nothing.symbol d c.symbols.ensures.value
    c.requires.within in
    let seen : is_seen (get_or xs c.args.number d) ≡ true =
    ap (λ (y : Symbol). not (is_local y.binding)) (sym is) ∙ sym c.if-not-is_visible.ensures in
    let named : IsNamed names c.name_in.result (get_or xs c.args.number d).name =
    subst (λ n. IsNamed names n (get_or xs c.args.number d).name) (sym (c.name_in.ensures nothing))
    (seen_named names c.args.seen.now xs c.args.number c.args.at nothing d p c.requires.within seen c.requires.at) in
    spelled_seen names (record { name = c.name_in.result; number = c.args.number; symbol = symbol })
    (get_or xs c.args.number d) is (visible_is _ (sym seen)) named

pub returns-clause-named : goal.returns-clause-named
returns-clause-named c = λ names p v.
    let xs = c.args.object.now.symbols in
    let symbol = get_or c.symbols.result.now c.args.number nothing.symbol in
    let is : symbol ≡ (get_or xs c.args.number no_symbol).symbol =
    symbol_is c.symbols.result.now xs c.args.number nothing.symbol no_symbol c.symbols.ensures.value
    c.requires.within in
    let seen : is_seen (get_or xs c.args.number no_symbol) ≡ true =
    ap (λ (y : Symbol). not (is_local y.binding)) (sym is) ∙ sym c.if-not-is_visible.ensures in
    let named : IsNamed names c.name_in.result (get_or xs c.args.number no_symbol).name =
    subst (λ n. IsNamed names n (get_or xs c.args.number no_symbol).name) (sym (c.name_in.ensures nothing))
    (seen_named names c.args.seen.now xs c.args.number c.args.at nothing no_symbol p c.requires.within seen
    c.requires.at) in
    ((get_or xs c.args.number no_symbol).name, named)
