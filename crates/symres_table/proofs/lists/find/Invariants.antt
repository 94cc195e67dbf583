use Rattle.symres_table.proofs.Common.{Numbered, Vec, get_or, vec_capacity, ℕ, ◌<◌}
use Rattle.std.proofs.Common.{Global}
use Rattle.symres_table.proofs.lists.find.Given as goal

abbrev pub invariant-loop-at : goal.invariant-loop-at
invariant-loop-at l = (k : ℕ) (d : Vec Numbered Global) → k < l.at → vec_capacity (get_or l.spare k d) < l.count
