use Rattle.emit_relocate.proofs.Common.{symbol_with, ◌∙◌}
use Rattle.emit_relocate.proofs.AddedSymbols.{adds_one, unnamed_facts, unnamed_symbol}
use Rattle.emit_relocate.proofs.symbols.add_unnamed.Goals as goal

pub returns-clause-symbol : goal.returns-clause-symbol
returns-clause-symbol c p s h =
    let case = c.case_named-case.result in
    let decided = c.case_named-case.ensures.case p h.symbol_table h.script in
    let row = c.of-defined.result in
    let definer = c.of-defined.ensures.definer ∙ c.of-definer.ensures in
    adds_one p s (symbol_with c.args.name row) c.args.list.now.items c.add_if_defined.new.list.items
    (unnamed_symbol p s c.args.sources.now h c.args.name case row c.value.result c.value.ensures
    (λ given. c.of-defined.ensures.row ∙ c.in-Some.ensures p s c.args.name.now given) definer decided)
    (unnamed_facts p s c.args.sources.now h c.args.name case row c.value.result c.value.ensures
    (λ given. c.of-defined.ensures.row ∙ c.in-Some.ensures p s c.args.name.now given) definer decided)
    c.add_if_defined.ensures.added

pub returns-clause-facts : goal.returns-clause-facts
returns-clause-facts c p s h =
    let decided = c.case_named-case.ensures.case p h.symbol_table h.script in
    c.add_if_defined.ensures.facts p s
    (unnamed_facts p s c.args.sources.now h c.args.name c.case_named-case.result c.of-defined.result c.value.result
    c.value.ensures (λ given. c.of-defined.ensures.row ∙ c.in-Some.ensures p s c.args.name.now given)
    (c.of-defined.ensures.definer ∙ c.of-definer.ensures) decided)
