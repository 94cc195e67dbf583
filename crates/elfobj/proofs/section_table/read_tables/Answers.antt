use Rattle.elfobj.proofs.Common.{take_at, ◌∙◌}
use Rattle.elfobj.proofs.Placed.{parts_placed}
use Rattle.elfobj.proofs.section_table.read_tables.Goals as goal

pub returns-clause-read : goal.returns-clause-read
returns-clause-read c =
    parts_placed c.args.bytes.now c.args.linked.sections.items c.args.linked.part_spans.items c.deref_mut.result.now
    c.set_relocation_ranges.new.part_spans _
    c.in_ok-symbols.symbols.symbols.items c.in_ok-symbols.symbols.names.items c.in_ok-all.field-0.all.items
    c.in_ok-all.field-0.spans.items c.deref-2.result.now
    c.requires.linked c.in_ok-symbols.ensures.symbols c.in_ok-all.ensures.relocations c.deref_mut.ensures.value
    c.deref-2.ensures.value
    c.set_relocation_ranges.ensures.relocations c.set_relocation_ranges.ensures.names
    c.set_relocation_ranges.ensures.bytes
    (take_at c.set_relocation_ranges.new.part_spans _ c.args.linked.part_spans.len
    (c.set_relocation_ranges.auto.part_spans ∙ c.deref_mut.ensures.len))
