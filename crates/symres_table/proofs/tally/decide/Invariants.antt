use Rattle.symres_table.proofs.Common.{List, declaration_of, map, take, tally_of, ℕ, ◌≡◌}
use Rattle.symres_table.proofs.tally.decide.Given as goal

abbrev pub invariant-loop-entry : goal.invariant-loop-entry
invariant-loop-entry l = (name : List ℕ) → l.tally
    ≡ tally_of (map (declaration_of name) (take l.entry-index l.declared))
