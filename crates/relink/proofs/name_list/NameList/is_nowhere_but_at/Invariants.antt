-- Each of the names so far that is this one stands at the place, and what is left of the text has the others.
use Rattle.relink.proofs.Common.{Some, [], drop, get_or, names_in, ℕ, ◌<◌, ◌≡◌}
use Rattle.relink.proofs.name_list.NameList.is_nowhere_but_at.Given as goal

abbrev pub invariant-loop-at : goal.invariant-loop-at
invariant-loop-at l = record {
  so_far : (q : ℕ) → q < l.at → get_or l.fn.self.names q [] ≡ l.name → l.place ≡ Some q;
  rest : names_in l.rest (drop l.at l.length-items) ≡ drop l.at l.fn.self.names;
}
