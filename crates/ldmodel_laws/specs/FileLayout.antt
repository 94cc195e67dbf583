-- What it is for segments to be those of a list of output sections (this project's own): two neighbours of nonzero size
-- stand in one segment exactly where `shares_segment` holds; and each segment begins at the least offset, past the
-- headers and the file bytes of the segments before it, that is congruent to its address modulo the page size.
use Rattle.std.specs.Prelude.{◌≡◌, ℕ, ◌≤◌, ◌%◌, List, [], ◌∷◌, length, flat_map, map, true, false}
use Rattle.ldmodel.specs.Each.{Each}
use Rattle.ldmodel.specs.Layout.{PlacedOutput}
use Rattle.ldmodel.specs.Segments.{Group, Segment, group_sections, nonempty, shares_segment, segment_start, file_end}
use Rattle.ldmodel.specs.Segments.{headers_end, page_size}

-- each member and the one after it
abbrev pub Neighbours : {X : Type 0} → (X → X → Type 0) → List X → Type 0
Neighbours R [] = Unit {0}
Neighbours R (x ∷ []) = Unit {0}
Neighbours R (x ∷ y ∷ ys) = R x y × Neighbours R (y ∷ ys)

-- the last section of a group
abbrev pub last_from : PlacedOutput → List PlacedOutput → PlacedOutput
last_from p [] = p
last_from p (q ∷ qs) = last_from q qs

abbrev pub last_of : Group → PlacedOutput
last_of g = last_from g.first g.others

abbrev pub Shares : PlacedOutput → PlacedOutput → Type 0
Shares p output = shares_segment p output ≡ true

-- the sections of a group share a segment, each with the one before it
abbrev pub IsTogether : Group → Type 0
IsTogether g = Neighbours Shares (group_sections g)

-- the last section of a group and the first of the next one do not
abbrev pub AreApart : Group → Group → Type 0
AreApart g h = shares_segment (last_of g) h.first ≡ false

-- a list of sections in groups
pub record IsGrouping (sections : List PlacedOutput) (gs : List Group) : Type 0 where
  pub parts : flat_map group_sections gs ≡ sections
  pub together : Each IsTogether gs
  pub apart : Neighbours AreApart gs

-- the least number not below an end that is congruent to an address modulo the page size
pub record IsLeastCongruent (end at offset : ℕ) : Type 0 where
  pub above : end ≤ offset
  pub congruent : offset % page_size ≡ at % page_size
  pub least : (n : ℕ) → end ≤ n → n % page_size ≡ at % page_size → offset ≤ n

-- each segment begins at the least place past the file bytes of those before it
abbrev pub BeginFrom : ℕ → List Segment → Type 0
BeginFrom end [] = Unit {0}
BeginFrom end (g ∷ gs) = IsLeastCongruent end (segment_start g) g.offset × BeginFrom (file_end end g) gs

pub record IsFileLayout (sections : List PlacedOutput) (segments : List Segment) : Type 0 where
  pub grouping : IsGrouping (nonempty sections) (map (λ (segment : Segment). segment.group) segments)
  pub offsets : BeginFrom (headers_end (length segments)) segments
