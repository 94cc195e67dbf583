use Rattle.emit_relocate.proofs.NumbersWithCases.{case_within}
use Rattle.emit_relocate.proofs.link_view.LinkView.name_limit.Goals as goal

pub returns : goal.returns
returns c =
    λ l is k name named.
    case_within c.args.self.now.symbol_table.now.cases k c.limit.result c.limit.ensures (is.cases k name named)
