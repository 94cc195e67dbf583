-- The table of memory regions.
use Rattle.std.specs.Prelude.{ℕ, List, map}
use Rattle.ldmodel.specs.Layout.{MemoryRegion}
use Rattle.place_terms.specs.declared.regions.RegionState.{RegionState}

abbrev pub region_of : RegionState → MemoryRegion
region_of x = record { name = x.name.now; origin = x.origin; extent = x.extent; next = x.next }

abbrev pub region_names : List MemoryRegion → List (List ℕ)
region_names regions = map (λ (region : MemoryRegion). region.name) regions
