use Rattle.ldscript_terms.proofs.Common.{List, Part, Passed, SpellsPattern, length, ◌≤◌}
use Rattle.ldscript_terms.proofs.matching.try_front.Given as goal

abbrev pub invariant-loop-part : goal.invariant-loop-part
invariant-loop-part l = record {
  in_word : length l.rest ≤ length l.word;
  in_name : length l.left ≤ length l.name;
  passed : (ps : List Part) → SpellsPattern ps l.word →
      (qs : List Part) × SpellsPattern qs l.rest × Passed ps qs l.name l.left;
}

abbrev pub decreases-loop-part : goal.decreases-loop-part
decreases-loop-part l = length l.rest
