use Rattle.symres.proofs.Common.{sym, ◌∙◌}
use Rattle.symres.proofs.Doubling.{doubled, not_doubled, strong_at}
use Rattle.symres.proofs.symbol_table.SymbolTable.doubled_key.Goals as goal

pub returns-then-not-is_doubled-clause-key : goal.returns-then-not-is_doubled-clause-key
returns-then-not-is_doubled-clause-key c =
    λ p d symbol_table.
    not_doubled p c.args.self.now c.args.place.0 c.args.number c.key_of-key.result.0 c.args.object.now.symbols d
    symbol_table
    c.requires.table c.key_of-key.ensures.name c.key_of-key.ensures.case
    (sym c.is_doubled.ensures ∙ c.if-not-is_doubled.true)

pub returns-clause-key : goal.returns-clause-key
returns-clause-key c =
    λ p d symbol_table.
    doubled p c.args.self.now c.args.place.0 c.args.number c.key_of-key.result c.args.object.now.symbols d symbol_table
    c.requires.table
    (strong_at c.symbols.result.now c.args.object.now.symbols c.args.place.0 c.args.number _ _ c.symbols.ensures.value
    c.requires.number (sym c.is_strong.ensures ∙ c.if-not-is_strong.false) d)
    c.key_of-key.ensures.name (sym c.is_doubled.ensures ∙ c.if-not-is_doubled.false)
