use Rattle.gather.proofs.Common.{false, sym, true, ◌∙◌}
use Rattle.gather.proofs.Seen.{case_is, declared, is_seen}
use Rattle.gather.proofs.cases.case_of_symbol.Goals as goal

pub key_of-requires : goal.key_of-requires
key_of-requires c =
    is_seen c.args.project.now c.args.symbol_table.now c.args.place c.args.number c.args.object.now
    c.requires.symbol_table
    c.requires.object c.requires.number
    (λ d. declared c.args.object.now c.symbols.result.now c.args.number _ false d c.symbols.ensures.value
    c.requires.number (sym c.declares.ensures ∙ c.if-declares.true))

pub returns-then-declares : goal.returns-then-declares
returns-then-declares c = λ d.
    case_is c.args.project.now c.args.symbol_table.now c.args.place c.args.number c.args.object.now
    c.requires.symbol_table
    c.requires.object c.key_of.result.0 c.case_of.result d c.key_of.ensures.name c.key_of.ensures.case c.case_of.ensures
    (declared c.args.object.now c.symbols.result.now c.args.number _ false d c.symbols.ensures.value
    c.requires.number (sym c.declares.ensures ∙ c.if-declares.true))

pub returns : goal.returns
returns c = λ d.
    declared c.args.object.now c.symbols.result.now c.args.number _ true d c.symbols.ensures.value
    c.requires.number (sym c.declares.ensures ∙ c.if-declares.false)
