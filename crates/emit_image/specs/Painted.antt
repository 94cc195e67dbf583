-- What is written of an image, span by span, each from where the one before it ends.
use Rattle.std.specs.Prelude.{◌≡◌, ℕ, zero, suc, ◌+◌, ◌-◌, ◌<◌, ◌≤◌, List, length, slice_index, true, false}
use Rattle.std.specs.Prelude.{if◌then◌else◌}
use Rattle.elfobj.specs.Counts.{Counts}
use Rattle.elfobj.specs.Raised.{raised}
use Rattle.elfobj.specs.declared.meter.Count.TheVariants.{Bytes}
use Rattle.emit_fields.specs.Canvas.{CanvasState}
use Rattle.emit_image.specs.Stretches.{Spot}

-- a canvas is no longer than this, and grows to it without more memory
pub record IsReady (limit : ℕ) (canvas : CanvasState) : Type 0 where
  pub short : length canvas.bytes ≤ limit
  pub room : limit ≤ canvas.room

-- how many of n bytes from an offset on do not stay
abbrev pub count_from : (ℕ → Spot) → ℕ → ℕ → ℕ
count_from spot from zero = 0
count_from spot from (suc n) = count_from spot from n + (if (spot (from + n)).stays then 0 else 1)

-- from an offset on and up to another what does not stay has the bytes of an image, and nothing else has changed; the
-- canvas reaches there; and the bytes that do not stay are counted, and only they
pub record IsPainted (old new : List ℕ) (before after : Counts) (from to : ℕ) (image : ℕ → Spot) : Type 0 where
  pub drawn : (o : ℕ) → from ≤ o → o < to → (image o).stays ≡ false → slice_index new o ≡ (image o).byte
  pub kept : (o : ℕ) → from ≤ o → o < to → (image o).stays ≡ true → slice_index new o ≡ slice_index old o
  pub below : (o : ℕ) → o < from → slice_index new o ≡ slice_index old o
  pub above : (o : ℕ) → to ≤ o → slice_index new o ≡ slice_index old o
  pub reached : from ≤ length old → to ≤ length new
  pub counted : (n : ℕ) → raised after Bytes n ≡ raised before Bytes (count_from image from (to - from) + n)
