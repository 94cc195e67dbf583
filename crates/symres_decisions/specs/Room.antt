-- Names that become known, and names that are forgotten.
use Rattle.std.specs.Prelude.{◌⊎◌, ℕ, ◌≡◌, ◌<◌, ◌≤◌, List, [], Option, Some, None, true, drop, length, slice_index_or}
use Rattle.std.specs.List.{All}
use Rattle.elfobj.specs.Symbols.{NamedSymbol}
use Rattle.ldmodel.specs.declared.names.Case.{Case}
use Rattle.ldmodel.specs.declared.names.ObjectKey.{ObjectKey}
use Rattle.symres_table.specs.State.{IsNamed, State, entries_of, slot}
use Rattle.symres_decisions.specs.Counted.{is_used}
use Rattle.symres_decisions.specs.Decided.{HasCase, case_at}
use Rattle.symres_decisions.specs.Texts.{declares}

-- the names that stand from a place on in the list have no entries
abbrev pub AreUnused : State → ℕ → Type 0
AreUnused s from = All (λ (e : List ℕ × ℕ). entries_of e.0 s.objects ≡ []) (drop from s.order)

-- they have cases
abbrev pub HaveCasesFrom : List (List ℕ × ℕ) → ℕ → List (Option (Case ObjectKey)) → Type 0
HaveCasesFrom order from cases =
    (i : ℕ) (e : List ℕ × ℕ) → from ≤ i → i < length order → HasCase cases (slice_index_or order i e).1

-- the names before that place have cases
abbrev pub HaveCasesBelow : List (List ℕ × ℕ) → ℕ → List (Option (Case ObjectKey)) → Type 0
HaveCasesBelow order from cases =
    (i : ℕ) (e : List ℕ × ℕ) → i < from → i < length order → HasCase cases (slice_index_or order i e).1

-- each name with an entry keeps its key
abbrev pub KeepsUsed : (old new : State) → Type 0
KeepsUsed old new =
    (k : ℕ) (name : List ℕ) → IsNamed old.names k name → is_used old.objects name ≡ true → IsNamed new.names k name

-- a case, if there is a name for it
abbrev pub kept_where : Option (List ℕ) → Option (Case ObjectKey) → Option (Case ObjectKey)
kept_where None c = None
kept_where (Some name) c = c

-- the cases of keys that have a name
abbrev pub AreKeptWhere : List (Option (List ℕ)) → (old new : List (Option (Case ObjectKey))) → Type 0
AreKeptWhere names old new = (k : ℕ) → case_at new k ≡ kept_where (slot names k) (case_at old k)

-- names are only dropped: the others keep their keys and their cases
abbrev pub OnlyDrops : (old new : List (Option (List ℕ))) → (before after : List (Option (Case ObjectKey))) → Type 0
OnlyDrops old new before after =
    (k : ℕ) (name : List ℕ) → IsNamed new k name → IsNamed old k name × (case_at after k ≡ case_at before k)

-- a key stands in a list from a place on
abbrev pub StandsFrom : List (List ℕ × ℕ) → (from k : ℕ) → Type 0
StandsFrom order from k =
    (i : ℕ) × (from ≤ i) × (i < length order) × ((e : List ℕ × ℕ) → (slice_index_or order i e).1 ≡ k)

-- each name had its key, or its key stands behind those that were there
abbrev pub AreOldOrNew : (old new : State) → Type 0
AreOldOrNew old new =
    (k : ℕ) (name : List ℕ) → IsNamed new.names k name
    → IsNamed old.names k name ⊎ StandsFrom new.order (length old.order) k

-- each name that these symbols declare has an entry
abbrev pub HaveEntries : List (ℕ × List NamedSymbol) → List NamedSymbol → Type 0
HaveEntries tables symbols = (name : List ℕ) → declares symbols name ≡ true → is_used tables name ≡ true
