use Rattle.elfobj.proofs.Common.{AreTablesOf, take}
use Rattle.elfobj.proofs.relocation_table.section_tables.Given as goal

abbrev pub invariant-loop-section : goal.invariant-loop-section
invariant-loop-section l = AreTablesOf l.bytes (take l.section-index l.sections) l.own.items
