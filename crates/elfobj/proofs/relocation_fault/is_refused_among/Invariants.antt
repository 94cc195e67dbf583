use Rattle.elfobj.proofs.Common.{All, HavePassed, PassesIn, get_or, length, take, ℕ, ◌<◌, ◌≡◌, ◌≤◌}
use Rattle.elfobj.specs.declared.relocation_run.SectionTable.{SectionTable}
use Rattle.elfobj.proofs.relocation_fault.is_refused_among.Given as goal

abbrev pub invariant-loop-table : goal.invariant-loop-table
invariant-loop-table l = record {
  long : length l.past ≡ length l.initial.past;
  passed : (j : ℕ) (d : SectionTable) → l.table-index ≤ j → j < length l.tables
      → HavePassed l.fault l.bytes l.symbols (get_or l.tables j d).section l.base l.past;
  none : All (PassesIn l.class l.fault l.bytes l.symbols) (take l.table-index l.tables);
}
