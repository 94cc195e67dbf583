use Rattle.symres_decisions.proofs.Common.{compared_number, map, ◌++◌, ◌≡◌}
use Rattle.symres_table.specs.Known.{entry_spelled}
use Rattle.symres_decisions.proofs.sorted_names.listed_names.Given as goal

-- the names so far, and those that are left
abbrev pub invariant-loop-name : goal.invariant-loop-name
invariant-loop-name l =
    map compared_number l.list.items ++ map entry_spelled l.name-iterator ≡ l.names.order
