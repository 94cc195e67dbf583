-- Keys by place, and the places of keys.
use Rattle.std.specs.Prelude.{◌≡◌, ℕ, List, nat_eq, position, Option, Some, None, slice_index_or, if◌then◌else◌}

-- the table has the place of each key, under the key's number
abbrev pub HasPlaces : List ℕ → List (Option ℕ) → Type 0
HasPlaces keys places = (key : ℕ) → slice_index_or places key None ≡ position (nat_eq key) keys

-- the key has this place, and all others are as they were
abbrev pub IsNoted : List (Option ℕ) → List (Option ℕ) → ℕ → ℕ → Type 0
IsNoted old new key place =
    (k : ℕ) → slice_index_or new k None ≡ (if nat_eq k key then Some place else slice_index_or old k None)
