use Rattle.elfobj.proofs.Common.{AreRead, sections_below}
use Rattle.elfobj.proofs.linked.linked_sections.Given as goal

abbrev pub invariant-loop-number : goal.invariant-loop-number
invariant-loop-number l = AreRead l.bytes
    (sections_below l.bytes l.number) l.linked.sections.items l.linked.part_spans.items
