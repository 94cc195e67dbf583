use Rattle.elfobj.proofs.Common.{AreRead, false, header, is_outside_profile, sections_below, ℕ, ◌<◌, ◌≡◌}
use Rattle.elfobj.proofs.linked.passing_sections.Given as goal

abbrev pub invariant-loop-number : goal.invariant-loop-number
invariant-loop-number l = record {
  read : AreRead l.bytes (sections_below l.bytes l.number) l.linked.sections.items l.linked.part_spans.items;
  passes : (j : ℕ) → j < l.number → is_outside_profile l.bytes (header l.bytes j) ≡ false;
}
