use Rattle.emit_image.proofs.Common.{ImagePiece, IsReached, arith, file_offset_of, get_or, piece_byte, section_image}
use Rattle.emit_image.proofs.Common.{subst, ℕ, ◌+◌, ◌<◌, ◌≤◌}
use Rattle.emit_image.specs.Drawing.{piece_end}
use Rattle.emit_image.proofs.Adding.{gap_and_part}
use Rattle.emit_image.proofs.Painting.{painted_then}
use Rattle.emit_image.proofs.InSection.{piece-within, piece_spot, pieces-from, reached-piece, start_above}
use Rattle.emit_image.proofs.paint_section.paint_full_piece.Goals as goal

pub paint_data_before-now-requires-clause-pieces : goal.paint_data_before-now-requires-clause-pieces
paint_data_before-now-requires-clause-pieces c =
    pieces-from c.args.section.now c.args.cursor.pieces c.index-section-cursor.result c.requires.orderly c.requires.some

pub overflow_add-end : goal.overflow_add-end
overflow_add-end c =
    let within = piece-within c.args.section.now c.args.cursor.pieces c.index-section-cursor.result c.requires.orderly
    c.requires.some in
    omega (arith, within, c.requires.orderly.end)

pub file_offset-from-requires-clause-high : goal.file_offset-from-requires-clause-high
file_offset-from-requires-clause-high c =
    let within = piece-within c.args.section.now c.args.cursor.pieces c.index-section-cursor.result c.requires.orderly
    c.requires.some in
    omega (arith, within)

pub file_offset-reach-requires-clause-high : goal.file_offset-reach-requires-clause-high
file_offset-reach-requires-clause-high c =
    piece-within c.args.section.now c.args.cursor.pieces c.index-section-cursor.result c.requires.orderly
    c.requires.some

pub paint_gap-requires-clause-within : goal.paint_gap-requires-clause-within
paint_gap-requires-clause-within c =
    let within = piece-within c.args.section.now c.args.cursor.pieces c.index-section-cursor.result c.requires.orderly
    c.requires.some in
    omega (arith, within, c.file_offset-reach.ensures, c.requires.within)

pub paint_piece-requires-clause-within : goal.paint_piece-requires-clause-within
paint_piece-requires-clause-within c =
    let q = c.requires in
    let x = c.args.section.now in
    let k = c.args.cursor.pieces in
    let now = c.paint_data_before-now.result in
    let e = c.paint_data_before-now.ensures in
    let r : IsReached x k now.data_commands now.at =
    subst (λ (n : ℕ). IsReached x n now.data_commands now.at) e.pieces e.reached in
    let above = start_above x k now.data_commands now.at c.index-section-cursor.result q.orderly r q.some
    (q.full c.index-section-cursor.result) e.data_commands in
    omega (
      arith,
      above,
      e.reached.low,
      c.file_offset-from.ensures,
      c.file_offset-reach.ensures,
      c.paint_gap.ensures.reached,
    )

pub returns-clause-reached : goal.returns-clause-reached
returns-clause-reached c =
    let q = c.requires in
    let x = c.args.section.now in
    let k = c.args.cursor.pieces in
    let now = c.paint_data_before-now.result in
    let e = c.paint_data_before-now.ensures in
    let r : IsReached x k now.data_commands now.at =
    subst (λ (n : ℕ). IsReached x n now.data_commands now.at) e.pieces e.reached in
    reached-piece x k now.data_commands now.at c.index-section-cursor.result q.orderly r q.some
    (q.full c.index-section-cursor.result) e.data_commands

pub returns-clause-painted : goal.returns-clause-painted
returns-clause-painted c =
    let q = c.requires in
    let x = c.args.section.now in
    let k = c.args.cursor.pieces in
    let now = c.paint_data_before-now.result in
    let e = c.paint_data_before-now.ensures in
    let y : ImagePiece = get_or x.pieces.now k c.index-section-cursor.result in
    let r : IsReached x k now.data_commands now.at =
    subst (λ (n : ℕ). IsReached x n now.data_commands now.at) e.pieces e.reached in
    let full : 0 < y.size = q.full c.index-section-cursor.result in
    let above = start_above x k now.data_commands now.at c.index-section-cursor.result q.orderly r q.some full
    e.data_commands in
    let up : y.start ≤ piece_end y = omega arith in
    let low : x.start ≤ y.start = omega (arith, above, e.reached.low) in
    let first : file_offset_of x c.args.cursor.at ≤ file_offset_of x now.at = omega (arith, e.up, q.reached.low) in
    let second : file_offset_of x now.at ≤ file_offset_of x (piece_end y) = omega (arith, above, up) in
    painted_then c.args.canvas.now.bytes c.paint_data_before-now.new.canvas.bytes c.paint_piece.new.canvas.bytes
    c.args.meter.now c.paint_data_before-now.new.meter c.paint_piece.new.meter
    (file_offset_of x c.args.cursor.at) (file_offset_of x now.at) (file_offset_of x (piece_end y))
    (section_image x) first second
    e.painted
    (gap_and_part x k now.data_commands now.at y.start (piece_end y) (λ a.
    record { byte = piece_byte a y; stays = y.stays }) c.paint_data_before-now.new.canvas.bytes
    c.paint_gap.new.canvas.bytes c.paint_piece.new.canvas.bytes c.paint_data_before-now.new.meter
    c.paint_gap.new.meter c.paint_piece.new.meter
    c.file_offset.result c.file_offset-from.result (c.file_offset-from.result + y.size) r above up
    (pieces-from x k c.index-section-cursor.result q.orderly q.some) e.data_commands
    (piece_spot x k now.data_commands now.at c.index-section-cursor.result q.orderly r q.some full e.data_commands)
    c.file_offset.ensures c.file_offset-from.ensures (omega (arith, c.file_offset-from.ensures, low))
    c.paint_gap.ensures.painted c.paint_piece.ensures.painted)
