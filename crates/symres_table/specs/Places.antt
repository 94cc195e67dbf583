-- Where the object of each key stands among the entered ones.
use Rattle.std.specs.Prelude.{◌≡◌, ℕ, ◌+◌, ◌-◌, ◌<◌, ◌≤◌, ◌==◌, Bool, false, nat_lt, List, [], ◌∷◌, Option, Some, None}
use Rattle.std.specs.Prelude.{length, slice_index_or, if◌then◌else◌}
use Rattle.symres_table.specs.declared.places.PlacedKey.{PlacedKey}

-- the place of the object of a key
abbrev pub place_of : List PlacedKey → ℕ → Option ℕ
place_of [] key = None
place_of (p ∷ ps) key = if p.key.0 == key then Some p.at else place_of ps key

-- in the order of the keys, each of them once
abbrev pub AreSorted : List PlacedKey → Type 0
AreSorted ps = (i j : ℕ) (d : PlacedKey) → i < j → j < length ps
    → (slice_index_or ps i d).key.0 < (slice_index_or ps j d).key.0

-- where the keys below this one end
pub record IsBelow (ps : List PlacedKey) (key n : ℕ) : Type 0 where
  pub within : n ≤ length ps
  pub below : (k : ℕ) (d : PlacedKey) → k < n → (slice_index_or ps k d).key.0 < key
  pub rest : (k : ℕ) (d : PlacedKey) → n ≤ k → k < length ps → key ≤ (slice_index_or ps k d).key.0

-- the place is in front of `at`
abbrev pub is_below : ℕ → Option ℕ → Bool
is_below at None = false
is_below at (Some n) = nat_lt n at

-- a place after an object was put at `at`
abbrev pub up : ℕ → ℕ → ℕ
up at n = if nat_lt n at then n else n + 1

-- a place after the object at `at` was taken out
abbrev pub down : ℕ → ℕ → ℕ
down at n = if nat_lt at n then n - 1 else n

-- each key has moved so
pub record AreMoved (move : ℕ → ℕ) (old new : List PlacedKey) : Type 0 where
  pub long : length new ≡ length old
  pub key : (k : ℕ) (d : PlacedKey) → k < length old → (slice_index_or new k d).key.0 ≡ (slice_index_or old k d).key.0
  pub at : (k : ℕ) (d : PlacedKey) → k < length old → (slice_index_or new k d).at ≡ move (slice_index_or old k d).at
