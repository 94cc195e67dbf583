-- Tables from names to numbers.
use Rattle.std.specs.Prelude.{ℕ, List, Option}
use Rattle.std.specs.Ordering.{nat_cmp}
use Rattle.std.specs.Cmp.Lexicographic.{slice_cmp}
use Rattle.std.specs.BTreeMap.{get_by}
use Rattle.std.specs.Vec.{vec_items}
use Rattle.ldscript_statements.specs.declared.number_table.NumberTable.{NumberTable}

-- the number under a name
abbrev pub number_at : NumberTable → List ℕ → Option ℕ
number_at t name = get_by (λ k. slice_cmp nat_cmp name (vec_items k)) t.numbers
