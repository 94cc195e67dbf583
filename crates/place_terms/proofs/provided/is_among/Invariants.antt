use Rattle.place_terms.proofs.Common.{bytes_eq, drop, list_any, shown_names, ◌≡◌}
use Rattle.place_terms.proofs.provided.is_among.Given as goal

abbrev pub invariant-loop-other : goal.invariant-loop-other
invariant-loop-other l =
    list_any (bytes_eq l.name) (shown_names l.names)
    ≡ list_any (bytes_eq l.name) (shown_names (drop l.other-index l.names))
