-- The first range that each range overlaps.
use Rattle.std.specs.Prelude.{◌≡◌, ℕ, ◌<◌, List, length, get_or, Option, Some, None, cond, nat_lt}
use Rattle.place_sections.specs.Found.{first_overlap}
use Rattle.place_sections.specs.declared.extent.Extent.{Extent}
use Rattle.place_sections.specs.declared.firsts.Numbered.{Numbered}

abbrev pub extent_of : Numbered → Extent
extent_of r = r.extent

-- a number of those before the given one
abbrev pub before : ℕ → Option ℕ → Option ℕ
before k None = None
before k (Some i) = cond (nat_lt i k) (Some i) None

-- for each that is asked for, the number of the first of all that it overlaps
pub record AreFirst (extents asked : List Extent) (firsts : List (Option ℕ)) : Type 0 where
  pub count : length firsts ≡ length asked
  pub each : (j : ℕ) (d : Extent) → j < length asked → get_or firsts j None ≡ first_overlap extents (get_or asked j d)

-- each range has its own number
pub record AreNumbered (extents : List Extent) (numbered : List Numbered) : Type 0 where
  pub count : length numbered ≡ length extents
  pub each : (k : ℕ) (d : Numbered) (e : Extent) → k < length extents
      → get_or numbered k d ≡ record { extent = get_or extents k e; number = k }

-- the range of a number
pub record IsOf (extents : List Extent) (r : Numbered) : Type 0 where
  pub within : r.number < length extents
  pub extent : (e : Extent) → r.extent ≡ get_or extents r.number e

-- where a number stands
pub record Ranks (ranking : List Numbered) (number : ℕ) : Type 0 where
  pub rank : ℕ
  pub within : rank < length ranking
  pub is : (d : Numbered) → (get_or ranking rank d).number ≡ number

-- the ranges with their numbers, in some order
pub record IsRanking (extents : List Extent) (ranking : List Numbered) : Type 0 where
  pub count : length ranking ≡ length extents
  pub each : (j : ℕ) (d : Numbered) → j < length ranking → IsOf extents (get_or ranking j d)
  pub all : (k : ℕ) → k < length extents → Ranks ranking k
