-- Of segments that follow one another, the first ones end here.
use Rattle.place.proofs.Common.{Follow, drop, length}
use Rattle.ldmodel.specs.Segments.{headers_end}
use Rattle.place.proofs.FileOffsets.{Reached}
use Rattle.place.proofs.length.loaded_end.Given as goal

abbrev pub invariant-loop-segment : goal.invariant-loop-segment
invariant-loop-segment l =
    Follow (headers_end (length l.segments)) l.segments
    → Reached l.segments (drop l.segment-index l.segments) l.end l.segment-index
