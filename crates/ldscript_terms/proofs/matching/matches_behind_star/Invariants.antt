use Rattle.ldscript_terms.proofs.Common.{AnyRun, List, Matches, Part, SpellsPattern, length, ◌+◌, ◌∷◌}
use Rattle.ldscript_terms.proofs.Stars.{Searches}
use Rattle.ldscript_terms.proofs.matching.matches_behind_star.Given as goal

abbrev pub invariant-loop-after : goal.invariant-loop-after
invariant-loop-after l = (ps : List Part) → SpellsPattern ps l.word
    → Searches (Matches (AnyRun ∷ ps) l.name) l.after l.left

abbrev pub decreases-loop-after : goal.decreases-loop-after
decreases-loop-after l = length l.after + length l.left
