-- Which sections of the objects of a link stayed, as flags under their numbers.
use Rattle.std.specs.Prelude.{◌≡◌, ◌||◌, ◌+◌, ◌≤◌, ◌<◌, ℕ, Bool, true, false, List, length, nat_lt, not, Option, Some}
use Rattle.std.specs.Prelude.{is_some}
use Rattle.std.specs.Prelude.{if◌then◌else◌, option_and_then, slice_index_or}
use Rattle.elfobj.specs.declared.section.SectionIndex.{SectionIndex}
use Rattle.ldmodel.specs.declared.names.ObjectPlace.{ObjectPlace}
use Rattle.ldmodel.specs.declared.sections.SectionRef.{SectionRef}
use Rattle.place.specs.IndexedLayout.{address_in, table_key}
use Rattle.place.specs.declared.indexed_layout.IndexedLayout.{IndexedLayout}
use Rattle.place.specs.declared.indexed_layout.SectionAddress.{SectionAddress}
use Rattle.place.specs.declared.link_layout.LinkLayout.{LinkLayout}
use Rattle.emit.specs.relocate.declared.previous_link_info.FileRange.{FileRange}
use Rattle.relink_driver.specs.PreviousLink.{PreviousState, range_if_same, stayed_range}
use Rattle.relink_driver.specs.SectionLocation.{location_of}
use Rattle.relink_driver.specs.declared.stayed_column.FlagSlice.{FlagSlice}
use Rattle.relink_driver.specs.declared.stayed_column.StayedColumn.{StayedColumn}

abbrev pub no_flags : FlagSlice
no_flags = record { begin = 0; count = 0 }

-- the row of object number n
abbrev pub slice_of : List FlagSlice → ℕ → FlagSlice
slice_of slices n = slice_index_or slices n no_flags

-- flag number k of a row
abbrev pub flag_of : List Bool → FlagSlice → ℕ → Bool
flag_of flags slice k = if nat_lt k slice.count then slice_index_or flags (slice.begin + k) false else false

-- that of header number k of object number n
abbrev pub stayed_in : StayedColumn → ℕ → ℕ → Bool
stayed_in c n k = flag_of c.flags.items (slice_of c.slices.items n) k

-- where the bytes of an input section stand that stayed, by its addresses in both links
abbrev pub stayed_between : LinkLayout → Option SectionAddress → LinkLayout → Option SectionAddress → Option FileRange
stayed_between previous before link_layout now =
    range_if_same (option_and_then (location_of previous) before) (option_and_then (location_of link_layout) now)

abbrev pub key_at : ℕ → ℕ → SectionRef
key_at n k = table_key (record { 0 = n }) (record { 0 = k })

-- whether the section of header number k of object number n stayed
abbrev pub has_stayed_number : PreviousState → IndexedLayout → ℕ → ℕ → Bool
has_stayed_number previous now n k = is_some (stayed_range (Some previous) now (key_at n k))

-- flags were added, which say for each number whether this is so; past the last one it is not so
pub record AreFlagsAdded (stays : ℕ → Bool) (old new : List Bool) : Type 0 where
  pub long : length old ≤ length new
  pub kept : (i : ℕ) → i < length old → slice_index_or new i false ≡ slice_index_or old i false
  pub are : (k : ℕ) → slice_index_or new (length old + k) false ≡ stays k

-- a section that stayed, or is not in the output
abbrev pub HasStayedOrIsOut : Bool → Option SectionAddress → Type 0
HasStayedOrIsOut stays now = (stays || not (is_some now)) ≡ true

-- each section of object number n stayed, or is not in the output
abbrev pub HasWhollyStayedIn : PreviousState → IndexedLayout → ℕ → Type 0
HasWhollyStayedIn previous now n = (k : ℕ)
    → HasStayedOrIsOut (has_stayed_number previous now n k) (address_in now (key_at n k))

-- what the column says of object number n
abbrev pub wholly_stayed_in : StayedColumn → ℕ → Bool
wholly_stayed_in c n = slice_index_or c.all_stayed.items n false

-- each section of an object of which the column says so stayed, or is not in the output
abbrev pub IsWhollyStayedColumn : Option PreviousState → IndexedLayout → StayedColumn → Type 0
IsWhollyStayedColumn previous now column =
    (object : ObjectPlace) → wholly_stayed_in column object.0 ≡ true → (number : SectionIndex)
    → HasStayedOrIsOut (is_some (stayed_range previous now (table_key object number)))
    (address_in now (table_key object number))

-- the column says of each section whether it stayed
abbrev pub IsStayedColumn : Option PreviousState → IndexedLayout → StayedColumn → Type 0
IsStayedColumn previous now column =
    (object : ObjectPlace) (number : SectionIndex) → stayed_in column object.0 number.0
    ≡ is_some (stayed_range previous now (table_key object number))
