use Rattle.emit_relocate.proofs.Common.{distinct_first, texts, ◌≡◌}
use Rattle.emit_relocate.proofs.script_names.distinct.Given as goal

-- the names before this place are seen to
abbrev pub invariant-loop-place : goal.invariant-loop-place
invariant-loop-place l = texts l.list.items ≡ distinct_first (texts l.names) l.place
