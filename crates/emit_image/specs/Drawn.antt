-- The image that a drawing, with patches, is for, and how much of it does not stay.
use Rattle.std.specs.Prelude.{◌≡◌, ℕ, ◌+◌, ◌<◌, zero, suc, List, slice_index, length, true, false, if◌then◌else◌}
use Rattle.std.specs.List.{All}
use Rattle.emit_fields.specs.declared.patch.Patch.{Patch}
use Rattle.emit_image.specs.Drawing.{drawing_end, drawing_spot}
use Rattle.emit_image.specs.Stretches.{IsPatchOf, Spot, is_patched}
use Rattle.emit_image.specs.declared.section.Drawing.{Drawing}

-- a drawing, and patches, are those of an image, where the canvas has these bytes: the drawing has its bytes but where
-- they stay; so do the patches; and a byte that stays and that no patch covers stands in the canvas
pub record IsDrawnFor (image : ℕ → ℕ) (drawing : Drawing) (patches : List Patch) (canvas : List ℕ) : Type 0 where
  pub drawn : (o : ℕ) → o < drawing_end drawing → (drawing_spot drawing o).stays ≡ false → (drawing_spot drawing o).byte
      ≡ image o
  pub patched : All (IsPatchOf image) patches
  pub stays : (o : ℕ) → o < drawing_end drawing → (drawing_spot drawing o).stays ≡ true → is_patched patches o ≡ false
      → (o < length canvas) × (slice_index canvas o ≡ image o)

-- how many of the first n bytes do not stay
abbrev pub count_unstayed : (ℕ → Spot) → ℕ → ℕ
count_unstayed spot zero = 0
count_unstayed spot (suc n) = count_unstayed spot n + (if (spot n).stays then 0 else 1)
