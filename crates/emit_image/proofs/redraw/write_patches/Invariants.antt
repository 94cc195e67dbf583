use Rattle.emit_image.proofs.Common.{All, Bytes, IsPatchOf, length, patch_bytes, raised, take, ℕ, ◌+◌, ◌≡◌, ◌≤◌}
use Rattle.emit_image.proofs.Patching.{Patched}
use Rattle.emit_image.proofs.redraw.write_patches.Given as goal

abbrev pub invariant-loop-patch : goal.invariant-loop-patch
invariant-loop-patch l = record {
  patched : (image : ℕ → ℕ) → All (IsPatchOf image) l.patches
      → Patched image l.patches l.patch-index l.fn.canvas.bytes l.canvas.bytes;
  short : length l.canvas.bytes ≤ l.end;
  room : l.end ≤ l.canvas.room;
  counted : (i : ℕ) → raised l.meter Bytes i ≡ raised l.fn.meter Bytes (patch_bytes (take l.patch-index l.patches) + i);
}
