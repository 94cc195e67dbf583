-- Bytes of the image, and patches.
use Rattle.std.specs.Prelude.{◌≡◌, ℕ, ◌+◌, ◌<◌, ◌≤◌, List, length, slice_index, Bool, sum_by}
use Rattle.std.specs.List.{list_any}
use Rattle.emit_fields.specs.Patches.{patch_end, patch_covers}
use Rattle.emit_fields.specs.declared.patch.Patch.{Patch}

-- a byte of the image, and whether it stays
pub record Spot : Type 0 where
  pub byte : ℕ
  pub stays : Bool

-- some patch covers byte o of the image
abbrev pub is_patched : List Patch → ℕ → Bool
is_patched patches o = list_any (λ (q : Patch). patch_covers q o) patches

-- a patch, at its offset in the file, has the bytes of an image
abbrev pub IsPatchOf : (ℕ → ℕ) → Patch → Type 0
IsPatchOf image q = (i : ℕ) → i < length q.field → slice_index q.field i ≡ image (q.offset + i)

abbrev pub EndsBy : ℕ → Patch → Type 0
EndsBy end q = patch_end q ≤ end

-- how many bytes patches have
abbrev pub patch_bytes : List Patch → ℕ
patch_bytes patches = sum_by (λ (q : Patch). length q.field) patches
