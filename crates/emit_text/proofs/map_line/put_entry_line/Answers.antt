-- The line of the entry point.
use Rattle.emit_text.proofs.Common.{codes, ◌∙◌}
use Rattle.emit_text.proofs.Appending.{written_both, written_last}
use Rattle.emit_text.proofs.MapLines.{entry_spelled}
use Rattle.emit_text.proofs.map_line.put_entry_line.Goals as goal

pub returns : goal.returns
returns c =
    let d = c.args.text.now.items in
    let digits = c.hex_digits.result in
    let front = written_both d _ _ (codes "entry ") digits c.in_ok-extend_from_slice.ensures.items
    c.in_ok-extend_from_slice-2.ensures.items in
    c.in_ok-push.ensures.items ∙ written_last d _ _ _ _ front (entry_spelled digits c.args.entry c.hex_digits.ensures)
