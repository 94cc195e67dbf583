use Rattle.elfobj.proofs.Common.{AreRelocated, map, relocation_of, table_entries, take}
use Rattle.elfobj.specs.declared.relocation_run.SectionTable.{SectionTable}
use Rattle.elfobj.proofs.relocation_run.find_spans.Given as goal

abbrev pub invariant-loop-table : goal.invariant-loop-table
invariant-loop-table l = AreRelocated
    (map (λ (t : SectionTable). map relocation_of (table_entries l.bytes t)) (take l.table-index l.tables))
    l.all l.spans.items
