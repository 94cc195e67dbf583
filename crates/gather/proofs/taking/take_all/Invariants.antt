-- The objects so far are taken.
use Rattle.gather.proofs.Common.{GatheredSection, IsTaken, List, length}
use Rattle.ldscript.specs.statements.Numbered.{shown_inputs}
use Rattle.gather.proofs.Preparing.{GatheredBefore}
use Rattle.gather.proofs.taking.take_all.Given as goal

abbrev pub invariant-loop-place : goal.invariant-loop-place
invariant-loop-place l = record {
  sections : List GatheredSection;
  before : GatheredBefore l.project l.place sections;
  taken : IsTaken (shown_inputs l.statements) l.orphans (length l.statements) sections l.taken;
}
