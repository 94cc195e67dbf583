use Rattle.elfobj_file.proofs.StringTables.{AreLengthsFrom}
use Rattle.elfobj_file.proofs.names.name_lengths.Given as goal

abbrev pub invariant-loop-at : goal.invariant-loop-at
invariant-loop-at l = AreLengthsFrom l.table l.lengths.items l.at l.next l.is_end
