use Rattle.elfobj.proofs.Common.{IsWindow, Span, false, get_or, length, list_any, map, relocations_in, share_bytes}
use Rattle.elfobj.proofs.Common.{take, ℕ, ◌<◌, ◌≡◌, ◌≤◌}
use Rattle.elfobj.proofs.field_marks.is_any_met.Given as goal

abbrev pub invariant-loop-span : goal.invariant-loop-span
invariant-loop-span l = record {
  window : IsWindow l.all l.from l.until l.marks;
  long : length l.marks ≡ length l.initial.marks;
  ahead : (j : ℕ) (d : Span) → l.span-index ≤ j → j < length l.spans → l.from ≤ (get_or l.spans j d).start;
  apart : list_any share_bytes (map (relocations_in l.all) (take l.span-index l.spans)) ≡ false;
}
