-- What the code finds, over the numbers of output sections.
use Rattle.std.specs.Prelude.{ℕ, List, [], ◌∷◌, ◌++◌, length, map, position, Option, Some, None}
use Rattle.ldmodel.specs.declared.fault.Fault as code
use Rattle.ldmodel.specs.declared.fault.Fault.TheVariants.{AddressesOverlap, LoadAddressesOverlap}
use Rattle.ldmodel.specs.declared.placed.OutputIndex.{OutputIndex}
use Rattle.ldmodel.specs.declared.placed.Placed.{Placed}
use Rattle.place_sections.specs.Extents.{overlap}
use Rattle.place_sections.specs.declared.extent.Extent.{Extent}
use Rattle.place_sections.specs.declared.overlaps.Space.{Space}
use Rattle.place_sections.specs.declared.overlaps.Space.TheVariants.{Memory, Load}

abbrev pub extent_in : Space → Placed → Extent
extent_in Memory q = record { start = q.start; size = q.size }
extent_in Load q = record { start = q.load; size = q.load_size }

abbrev pub extents_in : Space → List Placed → List Extent
extents_in space sections = map (extent_in space) sections

abbrev pub fault_in : Space → OutputIndex → OutputIndex → code.Fault
fault_in Memory section earlier = AddressesOverlap section earlier
fault_in Load section earlier = LoadAddressesOverlap section earlier

-- the number of the first that an extent overlaps
abbrev pub first_overlap : List Extent → Extent → Option ℕ
first_overlap earlier e = position (overlap e) earlier

abbrev pub fault_with : Space → ℕ → Option ℕ → List code.Fault
fault_with space k None = []
fault_with space k (Some i) = fault_in space (record { 0 = k }) (record { 0 = i }) ∷ []

-- the faults of those past the first ones
unfoldable pub overlaps_after : Space → List Extent → List Extent → List code.Fault
overlaps_after space earlier [] = []
overlaps_after space earlier (e ∷ es) =
    fault_with space (length earlier) (first_overlap earlier e) ++ overlaps_after space (earlier ++ e ∷ []) es

abbrev pub overlaps_before : Space → List Extent → List code.Fault
overlaps_before space extents = overlaps_after space [] extents
