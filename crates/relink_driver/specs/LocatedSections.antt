-- Where the sections of an object stand in a link, as the code finds them.
use Rattle.std.specs.Prelude.{ℕ, zero, suc, ◌++◌, List, [], Option, option_and_then, option_to_list, slice_get}
use Rattle.std.specs.Option.{option_map}
use Rattle.elfobj.specs.declared.section.Section.{Section}
use Rattle.emit.specs.declared.located_section.LocatedSection.{LocatedSection}
use Rattle.ldmodel.specs.declared.names.ObjectPlace.{ObjectPlace}
use Rattle.ldmodel.specs.declared.sections.Part.TheVariants.{InTable}
use Rattle.ldmodel.specs.declared.sections.SectionRef.{SectionRef}
use Rattle.place.specs.declared.indexed_layout.IndexedLayout.{IndexedLayout}
use Rattle.relink_driver.specs.SectionLocation.{location_in}
use Rattle.relink_driver.specs.declared.section_location.SectionLocation.{SectionLocation}

abbrev pub spot_with : ℕ → SectionLocation → LocatedSection
spot_with n x = record { index = record { 0 = n }; start = x.start; range = x.range }

abbrev pub key_of : ObjectPlace → Section → SectionRef
key_of place x = record { object = place; part = InTable x.number }

-- where section number n of the object of a place stands
abbrev pub spot_at : IndexedLayout → ObjectPlace → ℕ → Section → Option LocatedSection
spot_at t place n x = option_map (spot_with n) (location_in t (key_of place x))

abbrev pub spot_of : IndexedLayout → ObjectPlace → ℕ → Option Section → List LocatedSection
spot_of t place n m = option_to_list (option_and_then (spot_at t place n) m)

-- where the first n sections of these stand
abbrev pub spots_below : IndexedLayout → ObjectPlace → List Section → ℕ → List LocatedSection
spots_below t place xs zero = []
spots_below t place xs (suc n) = spots_below t place xs n ++ spot_of t place n (slice_get xs n)
