-- Names that are defined twice, found symbol by symbol.
use Rattle.std.specs.Prelude.{◌≡◌, ◌<◌, ◌++◌, ℕ, Bool, true, List, [], ◌∷◌, Option, Some, None, filter, map, not}
use Rattle.std.specs.Prelude.{if◌then◌else◌, length, slice_index_or}
use Rattle.std.specs.Option.{option_map}
use Rattle.elfobj.specs.Symbols.{NamedSymbol}
use Rattle.ldmodel.specs.CodeValues.{entry_of}
use Rattle.ldmodel.specs.InputSections.{is_same_entry}
use Rattle.ldmodel.specs.Link.{duplicate_fault}
use Rattle.ldmodel.specs.NameFaults.{duplicate, is_duplicate}
use Rattle.ldmodel.specs.Names.{Declaration, Duplicate, Entry, declaration, declarations, decision, is_local}
use Rattle.ldmodel.specs.Names.{is_of_name}
use Rattle.ldmodel.specs.Names.{is_strong}
use Rattle.ldmodel.specs.Project.{Project}
use Rattle.ldmodel.specs.declared.fault.Definer as code_definer
use Rattle.ldmodel.specs.declared.fault.Definer.TheVariants as definer
use Rattle.ldmodel.specs.declared.fault.Fault as code
use Rattle.ldmodel.specs.declared.fault.Fault.TheVariants as variant
use Rattle.ldmodel.specs.declared.names.Entry as code_names
use Rattle.ldmodel.specs.declared.names.NameKey.{NameKey}
use Rattle.ldmodel.specs.declared.names.ObjectPlace.{ObjectPlace}
use Rattle.ldmodel_project.specs.ByPlace.{faults_in}
pub use Rattle.symres_decisions.specs.Decided.{is_doubled}
use Rattle.symres_table.specs.State.{IsNamed}

-- an entry, by the place of its object
abbrev pub by_place : code_names.Entry ObjectPlace → Entry
by_place e = entry_of (λ key. key) e

-- what defines a name before an entry does, where this is the first entry that does
abbrev pub definer_before : (is_assigned : Bool) → (first entry : code_names.Entry ObjectPlace)
    → Option code_definer.Definer
definer_before is_assigned first entry =
    if is_assigned then Some definer.Script
    else (if is_same_entry (by_place first) (by_place entry) then None
    else Some (definer.Object first.object))

abbrev pub faults_of : code_names.Entry ObjectPlace → Option code_definer.Definer → List code.Fault
faults_of entry None = []
faults_of entry (Some first) = variant.DuplicateDefinition entry first ∷ []

-- the object at the place has this symbol table
pub record IsTableAt (objects : List (ℕ × List NamedSymbol)) (place : ℕ) (symbols : List NamedSymbol) : Type 0 where
  pub within : place < length objects
  pub is : (t : ℕ × List NamedSymbol) → slice_index_or objects place t ≡ (place, symbols)

-- a symbol defines a name that is defined twice, and this is the key of the name; or it doesn't
abbrev pub IsDoubled : Project → List (Option (List ℕ)) → Declaration → Option NameKey → Type 0
IsDoubled project names d None = is_strong d ≡ true → decision project d.name ≡ Duplicate → ⊥
IsDoubled project names d (Some k) =
    (is_strong d ≡ true) × IsNamed names k.0 d.name × (decision project d.name ≡ Duplicate)

abbrev pub is_seen : Declaration → Bool
is_seen d = not (is_local d.symbol.binding)

-- what a symbol declares
abbrev pub declared_by : ℕ → ℕ → NamedSymbol → List Declaration
declared_by place number symbol = filter is_seen (declaration place (number, symbol) ∷ [])

-- the declarations of the project begin with these
abbrev pub Begins : Project → List Declaration → Type 0
Begins project ds = (rest : List Declaration) × (declarations project.objects ≡ ds ++ rest)

-- the strong definitions of a name
abbrev pub strongs : List ℕ → List Declaration → List Declaration
strongs name ds = filter is_strong (filter (is_of_name name) ds)

abbrev pub first_entry : List Declaration → Option Entry
first_entry [] = None
first_entry (d ∷ ds) = Some d.entry

-- of each name that is defined twice the first definition among these is noted under its key, and these are the faults
-- of those that aren't the first
pub record AreFound (project : Project) (names : List (Option (List ℕ))) (ds : List Declaration)
    (firsts : List (Option (code_names.Entry ObjectPlace))) (faults : List code.Fault) : Type 0 where
  pub noted : (k : ℕ) (name : List ℕ) → IsNamed names k name → decision project name ≡ Duplicate
      → option_map by_place (slice_index_or firsts k None) ≡ first_entry (strongs name ds)
  pub told : faults_in project faults ≡ map duplicate_fault (map (duplicate project) (filter (is_duplicate project) ds))
