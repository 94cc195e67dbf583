use Rattle.emit_image.proofs.Common.{flat_map, segment_bytes, take, ◌++◌, ◌≡◌}
use Rattle.emit_image.proofs.headers.put_segments.Given as goal

abbrev pub invariant-loop-g : goal.invariant-loop-g
invariant-loop-g l = l.out.items ≡ l.fn.out.items ++ flat_map segment_bytes (take l.g-index l.segments)
