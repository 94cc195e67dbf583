use Rattle.place_terms.proofs.Common.{AreInForce, provided_names, shown_names, take, ◌≡◌}
use Rattle.place_terms.proofs.provided.Provided.new.Given as goal

abbrev pub invariant-loop-number : goal.invariant-loop-number
invariant-loop-number l = record {
  in_force : AreInForce l.script l.in_force.items (provided_names l.script (take l.number-index l.numbers));
  names : shown_names l.names.items ≡ provided_names l.script (take l.number-index l.numbers);
}
