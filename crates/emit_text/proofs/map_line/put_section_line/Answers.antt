-- An output section's line.
use Rattle.emit_text.proofs.Common.{codes, ◌∙◌}
use Rattle.emit_text.proofs.Appending.{written_both, written_last}
use Rattle.emit_text.proofs.MapLines.{section_spelled}
use Rattle.emit_text.proofs.map_line.put_section_line.Goals as goal

pub returns : goal.returns
returns c =
    let d = c.args.text.now.items in
    let name = c.args.name.now in
    let n = c.args.numbers in
    let middle = c.section_numbers.result in
    let flags = c.args.flags.now in
    let one = written_both d _ _ (codes "section ") name c.in_ok-extend_from_slice.ensures.items
    c.in_ok-extend_from_slice-2.ensures.items in
    let two = written_both d _ _ _ middle one c.in_ok-extend_from_slice-3.ensures.items in
    let three = written_both d _ _ _ flags two c.in_ok-extend_from_slice-4.ensures.items in
    c.in_ok-push.ensures.items
    ∙ written_last d _ _ _ _ three (section_spelled name middle n.start n.load n.size flags c.section_numbers.ensures)
