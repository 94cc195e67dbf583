-- What names stand for, over a table of names.
use Rattle.std.specs.Prelude.{ℕ, ◌≡◌, Bool, true, false, List, Option, Some, None, slice_index_or}
use Rattle.ldscript.specs.statements.declared.statement.Statement.{Statement}
use Rattle.ldmodel.specs.CodeValues.{decision_under_keys}
use Rattle.ldmodel.specs.Names.{Decision, decided}
use Rattle.ldmodel.specs.ScriptNames.{is_assigned, is_provided}
use Rattle.ldmodel.specs.declared.names.Case.{Case}
use Rattle.ldmodel.specs.declared.names.Case.TheVariants as case
use Rattle.ldmodel.specs.declared.names.ObjectKey.{ObjectKey}
use Rattle.symres_table.specs.State.{State, IsNamed, HasName, entries_of}

-- what was decided under a key
abbrev pub case_at : {O : Type 0} → List (Option (Case O)) → ℕ → Option (Case O)
case_at cases k = slice_index_or cases k None

abbrev pub HasCase : {O : Type 0} → List (Option (Case O)) → ℕ → Type 0
HasCase {O} cases k = (c : Case O) × (case_at cases k ≡ Some c)

-- what a name stands for, over a table of names
abbrev pub decision_in : List Statement → State → List ℕ → Decision
decision_in script s name = decided (is_assigned script name) (is_provided script name) (entries_of name s.objects)

-- the key has a name, and the case is what it stands for
pub record IsCase (script : List Statement) (s : State) (k : ℕ) (c : Case ObjectKey) : Type 0 where
  pub named : HasName s.names k
  pub case : (name : List ℕ) → IsNamed s.names k name → decision_under_keys c ≡ decision_in script s name

-- each case is that of the name of its key
abbrev pub AreCases : List Statement → State → List (Option (Case ObjectKey)) → Type 0
AreCases script s cases = (k : ℕ) (c : Case ObjectKey) → case_at cases k ≡ Some c → IsCase script s k c

-- cases are only added
abbrev pub KeepsCases : List (Option (Case ObjectKey)) → List (Option (Case ObjectKey)) → Type 0
KeepsCases old new = (k : ℕ) (c : Case ObjectKey) → case_at old k ≡ Some c → case_at new k ≡ Some c

-- the name is defined twice
abbrev pub is_doubled : {O : Type 0} → Option (Case O) → Bool
is_doubled (Some case.Duplicate) = true
is_doubled _ = false
