use Rattle.symres_table.proofs.Common.{Files}
use Rattle.symres_table.proofs.name_table.file_all.Given as goal

abbrev pub invariant-loop-place : goal.invariant-loop-place
invariant-loop-place l = Files l.numbers.entries l.place l.fn.places.slots l.places.slots
