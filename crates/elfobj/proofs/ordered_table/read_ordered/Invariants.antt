use Rattle.elfobj.proofs.Common.{All, Any, AreRelocated, false, is_refused_for, list_any, map, relocation_of}
use Rattle.elfobj.proofs.Common.{share_bytes, table_entries, take, ◌≡◌}
use Rattle.elfobj.specs.declared.relocation_run.SectionTable.{SectionTable}
use Rattle.elfobj.proofs.ordered_table.read_ordered.Given as goal

abbrev pub invariant-loop-table : goal.invariant-loop-table
invariant-loop-table l = record {
  read : AreRelocated (map (λ (t : SectionTable). map relocation_of (table_entries l.bytes t))
      (take l.table-index l.tables)) l.all.items l.spans.items;
  passes : All (λ (t : SectionTable). list_any (is_refused_for Any l.symbols t.section)
      (table_entries l.bytes t) ≡ false) (take l.table-index l.tables);
  apart : All (λ (t : SectionTable). share_bytes (map relocation_of (table_entries l.bytes t)) ≡ false)
      (take l.table-index l.tables);
}
