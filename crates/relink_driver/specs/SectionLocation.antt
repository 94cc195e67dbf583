-- Where an input section stands in a link, in memory and in the file.
use Rattle.std.specs.Prelude.{Bool, ◌+◌, ◌-◌, ◌^◌, ◌==◌, ◌&&◌, ℕ, Option, Some, None, not, nat_lt, slice_get}
use Rattle.std.specs.Prelude.{option_and_then, if◌then◌else◌}
use Rattle.std.specs.Option.{option_map}
use Rattle.ldmodel.specs.declared.placed.Placed.{Placed}
use Rattle.ldmodel.specs.declared.sections.SectionRef.{SectionRef}
use Rattle.place.specs.IndexedLayout.{address_in}
use Rattle.place.specs.declared.link_layout.LinkLayout.{LinkLayout}
use Rattle.place.specs.declared.indexed_layout.SectionAddress.{SectionAddress}
use Rattle.place.specs.declared.indexed_layout.IndexedLayout.{IndexedLayout}
use Rattle.emit.specs.relocate.declared.previous_link_info.FileRange.{FileRange}
use Rattle.relink_driver.specs.declared.section_location.SectionLocation.{SectionLocation}

-- bytes of the file, unless they begin past 2^64
abbrev pub bytes_from : ℕ → ℕ → Option FileRange
bytes_from offset size = if nat_lt offset (2 ^ 64) then Some (record { offset = offset; length = size }) else None

-- the bytes of an input section that starts at an address, where its output section begins at an offset; no bytes,
-- where the output section has none in the file
unfoldable pub range_from : Placed → ℕ → ℕ → ℕ → Option FileRange
range_from q offset start size =
    if q.has_file_bytes && not (size == 0) then bytes_from (offset + (start - q.start)) size
    else Some (record { offset = 0; length = 0 })

-- by the tables of a link
abbrev pub range_in : LinkLayout → SectionAddress → Placed → Option FileRange
range_in l x q =
    option_and_then (λ (offset : ℕ). range_from q offset x.start x.size) (slice_get l.offsets.items x.section.0)

abbrev pub range_at : LinkLayout → SectionAddress → Option FileRange
range_at l x = option_and_then (range_in l x) (slice_get l.placement.sections x.section.0)

abbrev pub location_with : SectionAddress → FileRange → SectionLocation
location_with x range = record { start = x.start; size = x.size; range = range }

abbrev pub location_of : LinkLayout → SectionAddress → Option SectionLocation
location_of l x = option_map (location_with x) (range_at l x)

unfoldable pub location_in : IndexedLayout → SectionRef → Option SectionLocation
location_in x k = option_and_then (location_of x.link_layout) (address_in x k)

abbrev pub same_location : SectionLocation → SectionLocation → Bool
same_location a b =
    (a.start == b.start)
    && ((a.size == b.size) && ((a.range.offset == b.range.offset) && (a.range.length == b.range.length)))
