-- Where output sections begin in the file, and how that is found beside the segments that they stand in.
use Rattle.std.specs.Prelude.{◌≡◌, ℕ, ◌+◌, ◌-◌, List, [], ◌∷◌, Bool, ◌==◌, if◌then◌else◌}
use Rattle.ldmodel.specs.Layout.{Layout, PlacedOutput}
use Rattle.ldmodel.specs.Segments.{file_offset, segments}
use Rattle.ldmodel.specs.declared.placed.Placed.{Placed}
use Rattle.ldmodel.specs.declared.segment.Segment.{Segment}

-- where an output section begins in the file
abbrev pub IsOffset : Layout → PlacedOutput → ℕ → Type 0
IsOffset layout output o = o ≡ file_offset (segments layout.sections) output

-- where an output section of a segment begins in the file
abbrev pub offset_at : Segment → Placed → ℕ
offset_at segment q = segment.offset + (q.start - segment.start)

-- the last output section of a segment ends where the segment does
abbrev pub is_last : Segment → Placed → Bool
is_last segment q = ((q.start + q.size) - segment.start) == segment.memory_size

-- where output sections begin in the file: one of size 0 at 0, each other one in the first of the segments, up to the
-- last one of that; past all segments, where none of nonzero size is, at 0
abbrev pub offsets_in : List Placed → List Segment → List ℕ
offsets_in [] gs = []
offsets_in (q ∷ qs) [] = 0 ∷ offsets_in qs []
offsets_in (q ∷ qs) (g ∷ gs) =
    if q.size == 0 then 0 ∷ offsets_in qs (g ∷ gs)
    else (offset_at g q ∷ (if is_last g q then offsets_in qs gs else offsets_in qs (g ∷ gs)))
