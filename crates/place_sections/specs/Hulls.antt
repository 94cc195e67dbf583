-- A tree of ranges in a list: below the node i are the nodes 2 i and 2 i + 1, and the last half of the list are leaves,
-- one for each range.
use Rattle.std.specs.Prelude.{◌≡◌, ℕ, ◌+◌, ◌*◌, ◌≤◌, ◌<◌, List, length, Option, Some, None, Bool, true, false, min, max}
use Rattle.std.specs.Prelude.{get_or, nat_lt, ◌&&◌}
use Rattle.place_sections.specs.Extents.{overlap}
use Rattle.place_sections.specs.declared.extent.Extent.{Extent}
use Rattle.place_sections.specs.declared.hull.Hull.{Hull}

abbrev pub around : Hull → Hull → Hull
around a b = record { low = min a.low b.low; end = max a.end b.end }

-- whether a range in a hull can overlap another
abbrev pub may_overlap : Hull → Extent → Bool
may_overlap h e = nat_lt h.low (e.start + e.size) && nat_lt e.start h.end

pub record Within (inner outer : Hull) : Type 0 where
  pub low : outer.low ≤ inner.low
  pub end : inner.end ≤ outer.end

pub record Around (outer : Hull) (e : Extent) : Type 0 where
  pub low : outer.low ≤ e.start
  pub end : e.start + e.size ≤ outer.end

-- the nodes below a node, itself among them
pub data Under (top : ℕ) : ℕ → Type 0 where
  here : Under top top
  below : (p c : ℕ) → Under top p → 2 * p ≤ c → c ≤ 2 * p + 1 → Under top c

-- each node is around those below it, and a leaf around its range until that has a mark
pub record Kept (extents : List Extent) (nodes : List Hull) (firsts : List (Option ℕ)) : Type 0 where
  pub nested : (p c : ℕ) (d : Hull) → 0 < p → 2 * p ≤ c → c ≤ 2 * p + 1 → c < length nodes
      → Within (get_or nodes c d) (get_or nodes p d)
  pub leaves : (j : ℕ) (d : Hull) (x : Extent) → j < length extents → get_or firsts j None ≡ None
      → 0 < (get_or extents j x).size → Around (get_or nodes (length extents + j) d) (get_or extents j x)

-- a mark stays, and one that is new is the given number, at a range that overlaps
pub data MarkedAt (met : Bool) (by : ℕ) : Option ℕ → Option ℕ → Type 0 where
  same : (o : Option ℕ) → MarkedAt met by o o
  found : met ≡ true → MarkedAt met by None (Some by)

abbrev pub Marked : List Extent → Extent → ℕ → List (Option ℕ) → List (Option ℕ) → Type 0
Marked extents e by old new = (j : ℕ) (d : Extent) → j < length extents
    → MarkedAt (overlap (get_or extents j d) e) by (get_or old j None) (get_or new j None)

-- those below a node that have no mark do not overlap the range
abbrev pub Missed : List Extent → Extent → ℕ → List (Option ℕ) → Type 0
Missed extents e node firsts = (j : ℕ) (d : Extent) → j < length extents → Under node (length extents + j)
    → get_or firsts j None ≡ None → overlap (get_or extents j d) e ≡ false
