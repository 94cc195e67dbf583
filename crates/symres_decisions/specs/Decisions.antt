-- What names stand for, as callers see it.
use Rattle.std.specs.Prelude.{ℕ, ◌≡◌, ◌<◌, ◌≤◌, ◌⊎◌, true, List, [], Option, Some, IfSome, length, slice_index_or}
use Rattle.ldscript.specs.statements.declared.statement.Statement.{Statement}
use Rattle.ldmodel.specs.CodeValues.{decision_under_keys}
use Rattle.ldmodel.specs.Names.{decided}
use Rattle.ldmodel.specs.ScriptNames.{is_assigned, is_provided}
use Rattle.ldmodel.specs.declared.names.Case.{Case}
use Rattle.ldmodel.specs.declared.names.ObjectKey.{ObjectKey}
use Rattle.symres_table.specs.State.{State, HasName, IsNamed, entries_of}
use Rattle.symres_decisions.specs.Counted.{is_used}
use Rattle.symres_decisions.specs.Decided.{AreCases, HasCase, case_at}
use Rattle.symres_decisions.specs.NameText.{AreInOrder}

-- the table of names, and the cases by their keys
pub record DecisionsState : Type 0 where
  pub names : State
  pub cases : List (Option (Case ObjectKey))

-- each known name has a case, and nothing else has one
pub record IsWhole (names : State) (cases : List (Option (Case ObjectKey))) : Type 0 where
  pub complete : (k : ℕ) → HasName names.names k → HasCase cases k
  pub only : (k : ℕ) → HasCase cases k → HasName names.names k

-- where a text of the names is kept, it has all of them, in byte order
abbrev pub IsTextOf : State → Option (List (List ℕ × ℕ)) → Type 0
IsTextOf names text = IfSome text (AreInOrder names.order)

-- each known name has an entry
abbrev pub AreUsed : State → Type 0
AreUsed s = (k : ℕ) (name : List ℕ) → IsNamed s.names k name → is_used s.objects name ≡ true

-- the names before this place of the list have entries
pub record AreUsedBelow (s : State) (count : ℕ) : Type 0 where
  pub within : count ≤ length s.order
  pub used : (i : ℕ) (e : List ℕ × ℕ) → i < count → is_used s.objects (slice_index_or s.order i e).0 ≡ true

-- each case is what its name stands for over the entered objects and this script
abbrev pub AreDecisionsOf : List Statement → DecisionsState → Type 0
AreDecisionsOf script d = AreCases script d.names d.cases

-- the case of a name: that of its key; or what the script alone makes of it, where it has no entries
abbrev pub IsCaseNamed : List Statement → DecisionsState → List ℕ → Case ObjectKey → Type 0
IsCaseNamed script d name c =
    ((k : ℕ) × IsNamed d.names.names k name × (case_at d.cases k ≡ Some c))
    ⊎ ((entries_of name d.names.objects ≡ [])
    × (decision_under_keys c ≡ decided (is_assigned script name) (is_provided script name) []))
