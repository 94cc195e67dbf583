use Rattle.elfobj.proofs.Common.{PartSpans, map, take, ◌≡◌}
use Rattle.elfobj.proofs.part_spans.set_relocation_ranges.Given as goal

abbrev pub invariant-loop-at : goal.invariant-loop-at
invariant-loop-at l = record {
  relocations : map (λ (p : PartSpans). p.relocations) (take l.at l.part_spans) ≡ take l.at l.spans;
  names : map (λ (p : PartSpans). p.name) l.part_spans ≡ map (λ (p : PartSpans). p.name) l.fn.part_spans;
  bytes : map (λ (p : PartSpans). p.bytes) l.part_spans ≡ map (λ (p : PartSpans). p.bytes) l.fn.part_spans;
}
