use Rattle.elfobj.proofs.Common.{All, PassesIn, ℕ, ◌<◌}
use Rattle.elfobj.proofs.relocation_fault.is_any_refused.Given as goal

abbrev pub invariant-loop-class : goal.invariant-loop-class
invariant-loop-class l = (c : ℕ) → c < l.class → All (PassesIn c l.fault l.bytes l.symbols) l.tables
