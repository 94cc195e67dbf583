use Rattle.elfobj.proofs.Common.{All, take, ◌*◌, ◌+◌, ◌≤◌}
use Rattle.elfobj.specs.Runs.{IsCovered}
use Rattle.elfobj.proofs.relocation_run.class_range.Given as goal

abbrev pub invariant-loop-table : goal.invariant-loop-table
invariant-loop-table l = record {
  end : 24 * l.end + l.class ≤ l.len;
  covers : All (IsCovered l.class l.low l.end) (take l.table-index l.tables);
}
