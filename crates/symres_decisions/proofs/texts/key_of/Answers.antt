use Rattle.symres_decisions.proofs.Common.{sym, ◌∙◌}
use Rattle.symres_decisions.proofs.Keys.{is_hidden, is_seen}
use Rattle.symres_decisions.proofs.texts.key_of.Goals as goal

pub key_of_seen-requires-clause-seen : goal.key_of_seen-requires-clause-seen
key_of_seen-requires-clause-seen c = λ d.
    is_seen c.args.object.now.symbols c.symbols-symbols.result.now c.args.number _ d c.symbols-symbols.ensures.value
    c.requires.number (sym c.if-is_visible.true ∙ c.is_visible.ensures)

pub returns : goal.returns
returns c = λ d.
    is_hidden c.args.object.now.symbols c.symbols-symbols.result.now c.args.number _ d
    c.symbols-symbols.ensures.value c.requires.number (sym c.if-is_visible.false ∙ c.is_visible.ensures)
