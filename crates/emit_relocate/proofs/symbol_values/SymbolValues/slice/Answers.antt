use Rattle.emit_relocate.proofs.SymbolValueRows.{row_of}
use Rattle.emit_relocate.proofs.symbol_values.SymbolValues.slice.Goals as goal

pub returns-clause-values : goal.returns-clause-values
returns-clause-values c = λ p layout o worth at many.
    row_of p layout c.args.self.now c.args.object.0 o c.args.count c.cut.result.now
    (λ j x e. worth c.args.object.0 j o x at e) many c.cut.ensures
