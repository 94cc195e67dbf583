-- The sections so far have their places.
use Rattle.gather.proofs.Common.{ArePlaces, length, place_under, ◌≡◌}
use Rattle.gather.specs.SectionTable.{len_of}
use Rattle.gather.proofs.places.places_of.Given as goal

abbrev pub invariant-loop-place : goal.invariant-loop-place
invariant-loop-place l = record {
  long : length l.places.items ≡ len_of l.table;
  are : ArePlaces l.sections l.place (place_under l.table l.places.items);
}
