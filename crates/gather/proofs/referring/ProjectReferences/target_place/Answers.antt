use Rattle.gather.proofs.Common.{NamedSymbol, Symbol, ap, arith, false, length, length-map, place_in, section_of_place}
use Rattle.gather.proofs.Common.{sym, true, ◌<◌, ◌∙◌}
use Rattle.gather.proofs.InLists.{there}
use Rattle.gather.proofs.KeyPlaces.{place_of_named}
use Rattle.gather.proofs.Refers.{local_target, no_target, symbol_target}
use Rattle.gather.proofs.Seen.{declared, is_seen, unnamed}
use Rattle.gather.proofs.referring.ProjectReferences.target_place.Goals as goal

pub returns-then-number-symbols : goal.returns-then-number-symbols
returns-then-number-symbols c =
    let count = ap length c.symbols-symbols.ensures.value
    ∙ length-map c.args.object.now.symbols (λ (s : NamedSymbol). s.symbol) in
    no_target c.args.self.now.project.now c.args.place c.args.relocation.now c.args.object.now c.requires.object
    (omega (arith, c.if-number-symbols.true, count))

pub key_of-key-requires : goal.key_of-key-requires
key_of-key-requires c =
    let count = ap length c.symbols-symbols.ensures.value
    ∙ length-map c.args.object.now.symbols (λ (s : NamedSymbol). s.symbol) in
    let low : c.args.relocation.now.symbol.0 < length c.args.object.now.symbols =
    omega (arith, c.if-number-symbols.false, count) in
    is_seen c.args.self.now.project.now c.args.self.now.symbol_table.now c.args.place c.args.relocation.now.symbol.0
    c.args.object.now c.requires.references.named c.requires.object low
    (λ d. declared c.args.object.now c.symbols-symbols.result.now c.args.relocation.now.symbol.0 _ false d
    c.symbols-symbols.ensures.value low (sym c.declares.ensures ∙ c.if-declares.true))

pub returns-then-declares : goal.returns-then-declares
returns-then-declares c =
    let r = c.args.self.now in
    let object = c.args.object.now in
    let n = c.args.relocation.now.symbol.0 in
    let count = ap length c.symbols-symbols.ensures.value
    ∙ length-map object.symbols (λ (s : NamedSymbol). s.symbol) in
    let low : n < length object.symbols = omega (arith, c.if-number-symbols.false, count) in
    let d = (there object.symbols n low).0 in
    symbol_target r.project.now c.args.place c.args.relocation.now object c.requires.object d c.place_of_name.result low
    (place_of_named r.project.now r.symbol_table.now c.args.place n object r.by_key.now c.key_of-key.result.0
    c.place_of_name.result d c.requires.references.named c.requires.object c.requires.references.keyed
    c.key_of-key.ensures.name c.key_of-key.ensures.case c.place_of_name.ensures
    (declared object c.symbols-symbols.result.now n _ false d c.symbols-symbols.ensures.value low
    (sym c.declares.ensures ∙ c.if-declares.true)))

pub returns : goal.returns
returns c =
    let r = c.args.self.now in
    let object = c.args.object.now in
    let n = c.args.relocation.now.symbol.0 in
    let count = ap length c.symbols-symbols.ensures.value
    ∙ length-map object.symbols (λ (s : NamedSymbol). s.symbol) in
    let low : n < length object.symbols = omega (arith, c.if-number-symbols.false, count) in
    let d = (there object.symbols n low).0 in
    local_target r.project.now c.args.place c.args.relocation.now object c.requires.object d c.find.result low
    (place_in r.places.now) c.section_at.result c.requires.references.placed
    (declared object c.symbols-symbols.result.now n _ true d c.symbols-symbols.ensures.value low
    (sym c.declares.ensures ∙ c.if-declares.false))
    (c.section_at.ensures ∙ ap (λ (s : Symbol). section_of_place c.args.place s.place)
    (unnamed object c.symbols-symbols.result.now n _ d c.symbols-symbols.ensures.value low))
    c.find.ensures
