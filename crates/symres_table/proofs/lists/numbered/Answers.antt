use Rattle.symres_table.proofs.Common.{IfSome, IsNamed, NamedSymbol, Some, Symbol, ap, false, get_or, is_local, subst}
use Rattle.symres_table.proofs.Common.{sym, ◌∙◌, ◌≡◌}
use Rattle.symres_table.proofs.Naming.{nothing, visible_is}
use Rattle.symres_table.proofs.Spelling.{symbol_is, name_is, spelled_seen, no_symbol}
use Rattle.symres_table.proofs.lists.numbered.Goals as goal

pub returns-in-Some-clause-named : goal.returns-in-Some-clause-named
returns-in-Some-clause-named c = λ v.
    let told : (d : NamedSymbol) → IsNamed c.args.known.now.slots c.in-Some.name
    (get_or c.args.object.now.symbols c.args.number d).name =
    subst (λ o. IfSome o (λ n. (d : NamedSymbol) → IsNamed c.args.known.now.slots n
    (get_or c.args.object.now.symbols c.args.number d).name)) c.in-Some.is c.requires.told in
    ((get_or c.args.object.now.symbols c.args.number no_symbol).name, told no_symbol)

pub unreachable-requires : goal.unreachable-requires
unreachable-requires c =
    let xs = c.args.object.now.symbols in
    let is : get_or c.symbols.result.now c.args.number nothing.symbol ≡ (get_or xs c.args.number no_symbol).symbol =
    symbol_is c.symbols.result.now xs c.args.number nothing.symbol no_symbol c.symbols.ensures.value
    c.requires.within in
    let seen : is_local (get_or xs c.args.number no_symbol).symbol.binding ≡ false =
    ap (λ (y : Symbol). is_local y.binding) (sym is)
    ∙ visible_is (is_local (get_or c.symbols.result.now c.args.number nothing.symbol).binding)
    c.if-not-is_visible.ensures in
    let k = c.requires.known no_symbol seen in
    c.in-None.ensures.number k.0 (k.1
    ∙ ap Some (name_is xs c.args.number c.name_of.result.now no_symbol c.name_of.ensures c.requires.within))

pub returns-clause-spelled : goal.returns-clause-spelled
returns-clause-spelled c = λ d.
    let xs = c.args.object.now.symbols in
    let symbol = get_or c.symbols.result.now c.args.number nothing.symbol in
    let is : symbol ≡ (get_or xs c.args.number d).symbol =
    symbol_is c.symbols.result.now xs c.args.number nothing.symbol d c.symbols.ensures.value c.requires.within in
    let seen : is_local (get_or xs c.args.number d).symbol.binding ≡ false =
    ap (λ (y : Symbol). is_local y.binding) (sym is)
    ∙ visible_is (is_local symbol.binding) c.if-not-is_visible.ensures in
    spelled_seen c.args.known.now.slots
    (record { name = c.in-Some-number_of.name; number = c.args.number; symbol = symbol })
    (get_or xs c.args.number d) is seen
    (c.in-Some-number_of.ensures.number
    ∙ ap Some (sym (name_is xs c.args.number c.name_of.result.now d c.name_of.ensures c.requires.within)))
