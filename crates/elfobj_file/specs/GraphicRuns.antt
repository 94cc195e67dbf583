-- Bytes that are loaded and tested together.
use Rattle.std.specs.Prelude.{◌≡◌, ℕ, ◌+◌, ◌<◌, ◌≤◌, ◌==◌, List, true, if◌then◌else◌, get_or}
use Rattle.std.specs.Int.{trailing_zeros, w64}
use Rattle.elfobj_file.specs.Names.{is_graphic}

-- the place of the lowest bit that is set, or n
abbrev pub first_set : ℕ → ℕ → ℕ
first_set mask n = if mask == 0 then n else trailing_zeros w64 mask

-- at most n bytes from this place on, all of which may stand in a name
abbrev pub IsGraphicFrom : List ℕ → ℕ → ℕ → ℕ → Type 0
IsGraphicFrom bytes at n run = (run ≤ n) × ((k : ℕ) → at ≤ k → k < at + run → is_graphic (get_or bytes k 0) ≡ true)
