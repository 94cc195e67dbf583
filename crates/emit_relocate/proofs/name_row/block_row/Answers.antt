use Rattle.emit_relocate.proofs.Common.{InCommon}
use Rattle.emit_relocate.proofs.Rows.{same_row}
use Rattle.emit_relocate.proofs.name_row.block_row.Goals as goal

pub returns : goal.returns
returns c p s starts =
    let at = c.in_ok-standing.ensures p s
    (record { object = c.args.owner.object; part = InCommon c.args.owner.symbol })
    (c.find.ensures.place p s starts) in
    same_row _ _ _ _ _ c.args.size at.value at.section
