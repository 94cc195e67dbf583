use Rattle.emit_image.proofs.Common.{file_end_of, fold, length, take, ◌*◌, ◌+◌, ◌≡◌}
use Rattle.emit_image.proofs.headers.loaded_end.Given as goal

abbrev pub invariant-loop-g : goal.invariant-loop-g
invariant-loop-g l = l.end ≡ fold file_end_of (64 + 56 * length l.segments) (take l.g-index l.segments)
