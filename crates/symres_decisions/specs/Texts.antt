-- Symbol tables of objects, and the cases of the names that they declare.
use Rattle.std.specs.Prelude.{ℕ, ◌≡◌, ◌+◌, ◌<◌, ◌++◌, ◌⊎◌, Bool, true, false, List, Option, Some, None, length}
use Rattle.std.specs.Prelude.{slice_set}
use Rattle.std.specs.Prelude.{bytes_eq, if◌then◌else◌, slice_index_or}
use Rattle.std.specs.List.{All}
use Rattle.std.specs.Set.{is_member}
use Rattle.elfobj.specs.Symbols.{NamedSymbol}
use Rattle.elfobj.specs.Counts.{Counts}
use Rattle.elfobj.specs.Raised.{raised}
use Rattle.elfobj.specs.declared.meter.Count.TheVariants as counts
use Rattle.ldscript.specs.statements.declared.statement.Statement.{Statement}
use Rattle.ldmodel.specs.Names.{distinct, is_local}
use Rattle.ldmodel.specs.declared.names.Case.{Case}
use Rattle.ldmodel.specs.declared.names.ObjectKey.{ObjectKey}
use Rattle.ldmodel.specs.declared.names.NameKey.{NameKey}
use Rattle.symres_table.specs.State.{HasName, IsNamed, State, slot}
use Rattle.symres_decisions.specs.Counted.{declared_in}
use Rattle.symres_decisions.specs.declared.texts.KeySource.{KeySource}
use Rattle.symres_decisions.specs.declared.texts.KeySource.TheVariants as sources
use Rattle.symres_decisions.specs.Decided.{AreCases, HasCase, IsCase, KeepsCases, case_at}

-- a local symbol has no key; that of another is the key of its name
abbrev pub IsKeyOf : List (Option (List ℕ)) → NamedSymbol → Option NameKey → Type 0
IsKeyOf names symbol None = is_local symbol.symbol.binding ≡ true
IsKeyOf names symbol (Some k) = (is_local symbol.symbol.binding ≡ false) × IsNamed names k.0 symbol.name

-- each name that the symbols declare is known
abbrev pub AreKnown : List (Option (List ℕ)) → List NamedSymbol → Type 0
AreKnown names symbols =
    All (λ (symbol : NamedSymbol). is_local symbol.symbol.binding ≡ false → (k : ℕ)
    × IsNamed names k symbol.name) symbols

-- unless the symbol is local, the key is that of its name
abbrev pub IsNotedFor : List (Option (List ℕ)) → NamedSymbol → NameKey → Type 0
IsNotedFor names symbol k = is_local symbol.symbol.binding ≡ false → IsNamed names k.0 symbol.name

-- these keys are noted for the first of these symbols
abbrev pub AreNoted : List (Option (List ℕ)) → List NamedSymbol → List NameKey → Type 0
AreNoted names symbols keys =
    (i : ℕ) (k : NameKey) (d : NamedSymbol) → i < length keys
    → IsNotedFor names (slice_index_or symbols i d) (slice_index_or keys i k)

-- the object at the place has these symbols; or their names are known, and keys are noted
abbrev pub AreFound : State → KeySource → List NamedSymbol → Type 0
AreFound s (sources.Noted keys) symbols = AreKnown s.names symbols × AreNoted s.names symbols keys.now
AreFound s (sources.Entered place) symbols =
    (place.0 < length s.objects)
    × ((t : ℕ × List NamedSymbol) → (slice_index_or s.objects place.0 t).1 ≡ symbols)

-- there is a place for the case of each known name
abbrev pub HasPlaces : List (Option (List ℕ)) → List (Option (Case ObjectKey)) → Type 0
HasPlaces names cases = (k : ℕ) → HasName names k → k < length cases

-- the symbols declare the name
abbrev pub declares : List NamedSymbol → List ℕ → Bool
declares symbols name = is_member bytes_eq (declared_in symbols) name

-- the same of the name of a key, if it has one
abbrev pub touches : List NamedSymbol → Option (List ℕ) → Bool
touches symbols None = false
touches symbols (Some name) = declares symbols name

-- the names that the symbols declare have no cases, and the others have those that they had
pub record IsCleared (names : List (Option (List ℕ))) (symbols : List NamedSymbol)
    (old new : List (Option (Case ObjectKey)))
    : Type 0 where
  pub long : length new ≡ length old
  pub at : (k : ℕ) → case_at new k ≡ (if touches symbols (slot names k) then None else case_at old k)

-- these names have cases, those of them that are known
abbrev pub AreDone : List (Option (List ℕ)) → List (Option (Case ObjectKey)) → List (List ℕ) → Type 0
AreDone names cases seen = (name : List ℕ) → is_member bytes_eq seen name ≡ true → (k : ℕ) → IsNamed names k name
    → HasCase cases k

-- none of these names has a case, but for those in `seen`
abbrev pub AreOpen : List (Option (List ℕ)) → List (Option (Case ObjectKey)) → (pending seen : List (List ℕ)) → Type 0
AreOpen names cases pending seen =
    (name : List ℕ) → is_member bytes_eq pending name ≡ true → is_member bytes_eq seen name ≡ false
    → (k : ℕ) → IsNamed names k name → case_at cases k ≡ None

-- the name of a key had no case, and was decided and counted
pub record IsDecidedAnew (script : List Statement) (s : State) (k : ℕ) (old new : List (Option (Case ObjectKey)))
    (before after : Counts) : Type 0 where
  pub none : case_at old k ≡ None
  pub which : Case ObjectKey
  pub is : IsCase script s k which
  pub cases : new ≡ slice_set old k (Some which)
  pub counted : after ≡ raised before counts.Names 1

-- the name of a key has a case: that which it had, or it was decided
abbrev pub DecidesOnce : List Statement → State → ℕ → (old new : List (Option (Case ObjectKey)))
    → (before after : Counts) → Type 0
DecidesOnce script s k old new before after =
    (HasCase old k × (new ≡ old) × (after ≡ before)) ⊎ IsDecidedAnew script s k old new before after

-- the names that these symbols declare were decided and counted, each once, but for those in `seen`, which had a case;
-- all others have the case that they had
pub record DecidedFor (script : List Statement) (s : State) (old new : List (Option (Case ObjectKey)))
    (before after : Counts)
    (seen : List (List ℕ)) (symbols : List NamedSymbol) : Type 0 where
  pub long : length new ≡ length old
  pub kept : KeepsCases old new
  pub sound : AreCases script s new
  pub done : AreDone s.names new (seen ++ declared_in symbols)
  pub others :
      (k : ℕ) (name : List ℕ) → IsNamed s.names k name → is_member bytes_eq (seen ++ declared_in symbols) name ≡ false
      → case_at new k ≡ case_at old k
  pub count : ℕ
  pub counted : after ≡ raised before counts.Names count
  pub each : count + length (distinct seen) ≡ length (distinct (seen ++ declared_in symbols))
