-- Where groups stand in the file.
use Rattle.std.specs.Prelude.{◌≡◌, ⊤, ℕ, ◌+◌, ◌^◌, ◌≤◌, List, [], ◌∷◌, map, ◌==◌, if◌then◌else◌}
use Rattle.std.specs.List.{All}
use Rattle.ldmodel.specs.Layout.{PlacedOutput}
use Rattle.ldmodel.specs.PlacementView.{AreSegments, placed_of}
use Rattle.ldmodel.specs.Segments.{congruent, segments}
use Rattle.ldmodel.specs.declared.placed.Placed.{Placed}
use Rattle.ldmodel.specs.declared.segment.Segment.{Segment}
use Rattle.place.specs.declared.group.Group.{Group}

-- the segments of any output sections that have these numbers
abbrev pub AreAllSegments : List Placed → List Segment → Type 0
AreAllSegments placed xs = (s : List PlacedOutput) → map placed_of s ≡ placed → AreSegments s (segments s) xs

-- what stands in a segment begins below 2^128 in the file
abbrev pub HaveRoom : List Segment → Type 0
HaveRoom xs = All (λ (x : Segment). x.offset + 2 ^ 64 ≤ 2 ^ 128) xs

-- a group at the first place past an end
abbrev pub segment_at : ℕ → Group → Segment
segment_at end g = record {
  offset = congruent end g.start;
  start = g.start;
  load = g.load;
  file_size = g.file_size;
  memory_size = g.memory_size;
  writable = g.writable;
  executable = g.executable;
  first = g.first;
  last = g.last;
}

-- the end of the file bytes after a segment
abbrev pub past : ℕ → Segment → ℕ
past end x = if x.file_size == 0 then end else x.offset + x.file_size

unfoldable pub segments_from : ℕ → List Group → List Segment
segments_from end [] = []
segments_from end (g ∷ gs) = segment_at end g ∷ segments_from (past end (segment_at end g)) gs

-- each begins less than a page past the file bytes before it
unfoldable pub Follow : ℕ → List Segment → Type 0
Follow end [] = ⊤
Follow end (x ∷ xs) = (x.offset ≤ end + 4096) × Follow (past end x) xs
