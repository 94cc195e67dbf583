-- The numbers that expressions may ask for, of what the code hands on.
use Rattle.ldmodel.specs.Value.{SectionNumbers, RegionNumbers}
use Rattle.ldmodel.specs.declared.placed.Placed.{Placed}
use Rattle.ldmodel.specs.declared.placed.PlacedRegion.{PlacedRegion}

abbrev pub section_numbers : Placed → SectionNumbers
section_numbers q = record { start = q.start; load = q.load; size = q.size }

abbrev pub region_numbers : PlacedRegion → RegionNumbers
region_numbers r = record { origin = r.origin; extent = r.extent }
