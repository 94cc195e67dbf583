use Rattle.elfobj.proofs.Common.{All, take, ◌<◌, ◌≤◌}
use Rattle.elfobj.specs.declared.relocation_run.SectionTable.{SectionTable}
use Rattle.elfobj.proofs.relocation_table.largest_size.Given as goal

abbrev pub invariant-loop-table : goal.invariant-loop-table
invariant-loop-table l = All (λ (t : SectionTable). 0 < t.count → t.section.size ≤ l.largest)
    (take l.table-index l.tables)
