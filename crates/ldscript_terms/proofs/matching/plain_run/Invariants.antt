use Rattle.ldscript_terms.proofs.Common.{length, ◌-◌, ◌≤◌}
use Rattle.ldscript_terms.proofs.PlainRuns.{IsPast}
use Rattle.ldscript_terms.proofs.matching.plain_run.Given as goal

abbrev pub invariant-loop-count : goal.invariant-loop-count
invariant-loop-count l = record {
  word : l.count ≤ length l.word;
  name : l.count ≤ length l.name;
  past : IsPast l.word l.name l.count;
}

abbrev pub decreases-loop-count : goal.decreases-loop-count
decreases-loop-count l = length l.word - l.count
