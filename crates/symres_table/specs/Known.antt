-- What the two tables of names say of each other.
use Rattle.std.specs.Prelude.{◌≡◌, if◌then◌else◌, ℕ, List, Option, Some, None, ◌++◌, slice_index_or, bytes_eq}
use Rattle.std.specs.Prelude.{Bool, true, false, ◌<◌, ◌≢◌, length, map, slice_get, IsSome}
use Rattle.std.specs.Option.{option_map}
use Rattle.std.specs.List.{All}
use Rattle.std.specs.Map.{lookup}
use Rattle.std.proofs.Common.{Vec, Global}
use Rattle.symres_table.specs.State.{slot, IsNamed}

-- the known names under their numbers, and each name with its number in the order in which they became known
pub record KnownNames : Type 0 where
  pub slots : List (Option (List ℕ))
  pub order : List (List ℕ × ℕ)

-- the bytes of a slot's name, wherever they lie in memory
abbrev pub spelled : Option (Vec ℕ Global) → Option (List ℕ)
spelled None = None
spelled (Some v) = Some v.items

abbrev pub entry_spelled : Vec ℕ Global × ℕ → List ℕ × ℕ
entry_spelled e = (e.0.items, e.1)

-- the slot spells the name
abbrev pub IsSpelled : List (Option (Vec ℕ Global)) → ℕ → List ℕ → Type 0
IsSpelled slots n name = spelled (slice_index_or slots n None) ≡ Some name

-- the key of the entry at a place
abbrev pub key_at : List (Vec ℕ Global × ℕ) → Option ℕ → Option (Vec ℕ Global)
key_at es None = None
key_at es (Some p) = option_map (λ (e : Vec ℕ Global × ℕ). e.0) (slice_get es p)

-- the name of each number, where its place among the entries is known
abbrev pub stored : List (Vec ℕ Global × ℕ) → List (Option ℕ) → List (Option (Vec ℕ Global))
stored es places = map (key_at es) places

-- the number of a name among the entries
abbrev pub number_in : List ℕ → List (Vec ℕ Global × ℕ) → Option ℕ
number_in name es = lookup (λ (k : Vec ℕ Global). bytes_eq name k.items) es

-- a value that passes the test
abbrev pub kept_if : (ℕ → Bool) → Option ℕ → Option ℕ
kept_if test None = None
kept_if test (Some v) = if test v then Some v else None

-- the two tables say the same
pub record IsPaired (es : List (Vec ℕ Global × ℕ)) (slots : List (Option (Vec ℕ Global))) : Type 0 where
  pub sound : All (λ (e : Vec ℕ Global × ℕ). IsSpelled slots e.1 e.0.items) es
  pub complete : (n : ℕ) (name : List ℕ) → IsSpelled slots n name → number_in name es ≡ Some n

-- the places of the numbers are those of their entries
pub record IsFiled (es : List (Vec ℕ Global × ℕ)) (places : List (Option ℕ)) : Type 0 where
  pub paired : IsPaired es (stored es places)
  pub within : (n p : ℕ) → slice_index_or places n None ≡ Some p → p < length es
  pub back : (j : ℕ) (e : Vec ℕ Global × ℕ) → j < length es → slice_index_or places (slice_index_or es j e).1 None
      ≡ Some j

-- no two entries have one number
abbrev pub AreApart : List (Vec ℕ Global × ℕ) → Type 0
AreApart es = (i j : ℕ) (e : Vec ℕ Global × ℕ) → i < j → j < length es → (slice_index_or es i e).1
    ≢ (slice_index_or es j e).1

-- the number of each entry has a place, which may be another entry's
abbrev pub HaveSlots : List (Vec ℕ Global × ℕ) → List (Option ℕ) → Type 0
HaveSlots es places = (j : ℕ) (e : Vec ℕ Global × ℕ) → j < length es
    → IsSome (slice_index_or places (slice_index_or es j e).1 None)

-- the numbers of the first entries have their places, and the others what they had
pub record Files (es : List (Vec ℕ Global × ℕ)) (count : ℕ) (old new : List (Option ℕ)) : Type 0 where
  pub long : length new ≡ length old
  pub done : (j : ℕ) (e : Vec ℕ Global × ℕ) → j < count → slice_index_or new (slice_index_or es j e).1 None ≡ Some j
  pub rest : (n : ℕ) → ((j : ℕ) (e : Vec ℕ Global × ℕ) → j < count → (slice_index_or es j e).1 ≢ n)
      → slice_index_or new n None ≡ slice_index_or old n None

-- the same of names as callers see them
pub record IsConsistent (k : KnownNames) : Type 0 where
  pub sound : All (λ (e : List ℕ × ℕ). IsNamed k.slots e.1 e.0) k.order
  pub complete : (n : ℕ) (name : List ℕ) → IsNamed k.slots n name → lookup (λ (x : List ℕ). bytes_eq name x) k.order
      ≡ Some n

-- a name stays where its number passes the test, and is dropped else
abbrev pub IsKeptWhere : (ℕ → Bool) → List (Option (List ℕ)) → List (Option (List ℕ)) → Type 0
IsKeptWhere keep old new = (n : ℕ) → (keep n ≡ true → slot new n ≡ slot old n) × (keep n ≡ false → slot new n ≡ None)

-- names were only added, after those known
abbrev pub AddsNames : KnownNames → KnownNames → Type 0
AddsNames old new = (more : List (List ℕ × ℕ)) × (new.order ≡ old.order ++ more)
