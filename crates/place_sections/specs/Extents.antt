-- Ranges of addresses.
use Rattle.std.specs.Prelude.{ℕ, ◌+◌, List, sum_by, Bool, ◌&&◌, nat_lt, nat_le, if◌then◌else◌}
use Rattle.ldmodel.specs.Overlaps.{ranges_overlap}
use Rattle.place_sections.specs.declared.extent.Extent.{Extent}

abbrev pub overlap : Extent → Extent → Bool
overlap a b = ranges_overlap a.start a.size b.start b.size

-- 1 where an address is in the range, else 0
abbrev pub covers : ℕ → Extent → ℕ
covers address a = if nat_le a.start address && nat_lt address (a.start + a.size) then 1 else 0

-- the number of ranges that an address is in
abbrev pub cover : ℕ → List Extent → ℕ
cover address extents = sum_by (covers address) extents
