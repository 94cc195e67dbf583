use Rattle.emit_image.proofs.Common.{Byte, IsPainted, IsReached, ap, arith, false, file_offset_of, get_or}
use Rattle.emit_image.proofs.Common.{section_image, subst, sym, ℕ, ◌+◌, ◌∙◌, ◌≡◌, ◌≤◌}
use Rattle.ldmodel.specs.declared.placed.PlacedData.{PlacedData}
use Rattle.emit_image.specs.Drawing.{data_byte, data_end}
use Rattle.emit_image.proofs.Adding.{gap_and_part}
use Rattle.emit_image.proofs.InSection.{data_above, data_from, data_spot, data_within, pieces_at, reached-data}
use Rattle.emit_image.proofs.paint_section.paint_next_data.Goals as goal

abbrev none : PlacedData
none = record { section = record { 0 = 0 }; start = 0; width = Byte; value = 0 }

pub overflow_add-end : goal.overflow_add-end
overflow_add-end c =
    let q = c.requires in
    let within = data_within c.args.x.now c.args.cursor.pieces c.args.cursor.data_commands c.args.cursor.at
    c.args.below none q.orderly q.reached q.some q.pieces (q.below none) in
    omega (arith, within, q.orderly.end, c.from.ensures, c.byte_count.ensures)

pub file_offset-from-requires-clause-high : goal.file_offset-from-requires-clause-high
file_offset-from-requires-clause-high c =
    let q = c.requires in
    let within = data_within c.args.x.now c.args.cursor.pieces c.args.cursor.data_commands c.args.cursor.at
    c.args.below none q.orderly q.reached q.some q.pieces (q.below none) in
    omega (arith, within)

pub file_offset-requires-2-clause-high : goal.file_offset-requires-2-clause-high
file_offset-requires-2-clause-high c =
    let q = c.requires in
    let within = data_within c.args.x.now c.args.cursor.pieces c.args.cursor.data_commands c.args.cursor.at
    c.args.below none q.orderly q.reached q.some q.pieces (q.below none) in
    omega (arith, within, c.from.ensures, c.byte_count.ensures)

pub paint_fill-requires-clause-within : goal.paint_fill-requires-clause-within
paint_fill-requires-clause-within c =
    let q = c.requires in
    let within = data_within c.args.x.now c.args.cursor.pieces c.args.cursor.data_commands c.args.cursor.at
    c.args.below none q.orderly q.reached q.some q.pieces (q.below none) in
    omega (arith, within, c.file_offset-from.ensures, q.within)

pub paint_data-requires-clause-within : goal.paint_data-requires-clause-within
paint_data-requires-clause-within c =
    let q = c.requires in
    let within = data_within c.args.x.now c.args.cursor.pieces c.args.cursor.data_commands c.args.cursor.at
    c.args.below none q.orderly q.reached q.some q.pieces (q.below none) in
    omega (arith, within, c.file_offset-2.ensures, c.from.ensures, c.byte_count.ensures, q.within)

pub returns-clause-reached : goal.returns-clause-reached
returns-clause-reached c =
    let q = c.requires in
    let d : PlacedData = get_or c.args.x.now.data_commands.now c.args.cursor.data_commands none in
    let end : data_end d ≡ d.start + c.from.result =
    ap (λ (n : ℕ). d.start + n) (sym (c.from.ensures ∙ c.byte_count.ensures)) in
    subst (λ (n : ℕ). IsReached c.args.x.now c.args.cursor.pieces (c.args.cursor.data_commands + 1) n) end
    (reached-data c.args.x.now c.args.cursor.pieces c.args.cursor.data_commands c.args.cursor.at c.args.below none
    q.orderly q.reached q.some q.pieces (q.below none))

pub returns-clause-painted : goal.returns-clause-painted
returns-clause-painted c =
    let q = c.requires in
    let x = c.args.x.now in
    let k = c.args.cursor.pieces in
    let j = c.args.cursor.data_commands in
    let at = c.args.cursor.at in
    let d : PlacedData = get_or x.data_commands.now j none in
    let end : data_end d ≡ d.start + c.from.result =
    ap (λ (n : ℕ). d.start + n) (sym (c.from.ensures ∙ c.byte_count.ensures)) in
    let above = data_above x k j at c.args.below none q.orderly q.reached q.some q.pieces (q.below none) in
    let up : d.start ≤ data_end d = omega arith in
    subst (λ (n : ℕ). IsPainted c.args.canvas.now.bytes c.paint_data.new.canvas.bytes c.args.meter.now
    c.paint_data.new.meter (file_offset_of x at) (file_offset_of x n) (section_image x)) end
    (gap_and_part x k j at d.start (data_end d) (λ a. record { byte = data_byte a d; stays = false })
    c.args.canvas.now.bytes c.paint_fill.new.canvas.bytes c.paint_data.new.canvas.bytes c.args.meter.now
    c.paint_fill.new.meter c.paint_data.new.meter
    c.file_offset.result c.file_offset-from.result c.file_offset-2.result q.reached above up
    (pieces_at x k j at c.args.below none q.orderly q.reached q.some q.pieces (q.below none))
    (data_from x k j at c.args.below none q.orderly q.reached q.some q.pieces (q.below none))
    (data_spot x k j at c.args.below none q.orderly q.reached q.some q.pieces (q.below none))
    c.file_offset.ensures c.file_offset-from.ensures (c.file_offset-2.ensures
    ∙ ap (λ (n : ℕ). file_offset_of x n) (sym end))
    c.paint_fill.ensures.painted c.paint_data.ensures.painted)
