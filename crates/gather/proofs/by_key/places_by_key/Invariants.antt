-- The keys so far have their places.
use Rattle.gather.proofs.KeyPlaces.{PlacesBelow}
use Rattle.gather.proofs.by_key.places_by_key.Given as goal

abbrev pub invariant-loop-key : goal.invariant-loop-key
invariant-loop-key l = PlacesBelow l.project l.symbol_table l.key l.column.items
