use Rattle.emit_relocate.proofs.Common.{symbol_with}
use Rattle.emit_relocate.proofs.AddedSymbols.{keeps_one}
use Rattle.emit_relocate.proofs.symbols.add_if_defined.Goals as goal

pub returns-clause-facts : goal.returns-clause-facts
returns-clause-facts c p s one all =
    keeps_one p s (symbol_with c.args.name c.args.row.now) c.args.list.now.items
    c.push_reserved.new.self.items c.push_reserved.ensures.items one all
