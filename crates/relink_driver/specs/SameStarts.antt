-- Which output sections start where the previous link has them.
use Rattle.std.specs.Prelude.{◌≡◌, ◌^◌, ◌==◌, ◌&&◌, ℕ, Bool, false, List, nat_le, nat_lt, Option, Some, None}
use Rattle.std.specs.Prelude.{option_and_then, if◌then◌else◌, slice_get, slice_index_or}
use Rattle.ldmodel.specs.declared.placed.Placed.{Placed}
use Rattle.place.specs.declared.link_layout.LinkLayout.{LinkLayout}
use Rattle.place.specs.declared.indexed_layout.SectionAddress.{SectionAddress}
use Rattle.relink_driver.specs.declared.section_location.OutputStart.{OutputStart}

-- where an output section with file bytes starts, if its offset is not above its address
abbrev pub start_below : Placed → ℕ → Option OutputStart
start_below q offset =
    if q.has_file_bytes && nat_le offset q.start then Some (record { address = q.start; offset = offset }) else None

unfoldable pub start_from : Placed → ℕ → Option OutputStart
start_from q offset = if nat_lt offset (2 ^ 64) then start_below q offset else None

abbrev pub start_in : LinkLayout → ℕ → Placed → Option OutputStart
start_in l n q = option_and_then (λ (offset : ℕ). start_from q offset) (slice_get l.offsets.items n)

abbrev pub start_of : LinkLayout → ℕ → Option OutputStart
start_of l n = option_and_then (start_in l n) (slice_get l.placement.sections n)

abbrev pub same_start : OutputStart → OutputStart → Bool
same_start b a = (b.address == a.address) && (b.offset == a.offset)

abbrev pub both_start : Option OutputStart → Option OutputStart → Bool
both_start None now = false
both_start (Some before) None = false
both_start (Some before) (Some now) = same_start before now

-- output section number n starts at the same place in both links
abbrev pub has_same_start : LinkLayout → LinkLayout → ℕ → Bool
has_same_start previous link_layout n = both_start (start_of previous n) (start_of link_layout n)

-- for each output section whether it does
abbrev pub HaveSameStarts : LinkLayout → LinkLayout → List Bool → Type 0
HaveSameStarts previous link_layout flags =
    (n : ℕ) → slice_index_or flags n false ≡ has_same_start previous link_layout n

abbrev pub same_address : SectionAddress → SectionAddress → Bool
same_address b a = (b.start == a.start) && ((b.size == a.size) && (b.section.0 == a.section.0))
