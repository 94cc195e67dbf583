use Rattle.gather.proofs.Common.{arith}
use Rattle.gather.proofs.RowSteps.{adds_here}
use Rattle.gather.proofs.rows.add_statement.Goals as goal

pub returns-in_ok-add_pieces-in-InSection : goal.returns-in_ok-add_pieces-in-InSection
returns-in_ok-add_pieces-in-InSection c =
    rw c.in-InSection.is
    (adds_here c.args.project.now c.args.sort c.in-InSection.number c.args.pieces.now.items c.order.new.pieces.items
    c.args.rows.now.items c.index_mut.result.now c.add_pieces.new.row
    (omega (arith, c.if-number-len.true, c.len.ensures)) c.index_mut.ensures.value c.in_ok-order-in-InSection.ensures
    c.in_ok-add_pieces-in-InSection.ensures)
