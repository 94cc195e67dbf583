use Rattle.elfobj.proofs.Common.{false, ◌≡◌}
use Rattle.elfobj.specs.Reading.{AreTablesBelow}
use Rattle.elfobj_file.specs.Tables.{is_wrong_below}
use Rattle.elfobj.proofs.relocation_table.changing_tables.Given as goal

abbrev pub invariant-loop-number : goal.invariant-loop-number
invariant-loop-number l = record {
  right : is_wrong_below l.bytes l.number ≡ false;
  tables : AreTablesBelow l.bytes l.number l.tables.items;
}
