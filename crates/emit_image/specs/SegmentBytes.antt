-- Program headers of segments as the code hands them on (gABI, "Program Header").
use Rattle.std.specs.Prelude.{ℕ, ◌+◌, ◌++◌, List, Bool, ◌==◌, if◌then◌else◌}
use Rattle.std.specs.Int.{to_le_bytes, w32, w64}
use Rattle.std.specs.Ordering.{is_lt, nat_cmp}
use Rattle.ldmodel.specs.declared.segment.Segment.{Segment}

-- p_flags
abbrev pub flags_number : Segment → ℕ
flags_number segment = 4 + (if segment.writable then 2 else 0) + (if segment.executable then 1 else 0)

-- the 56 bytes of a PT_LOAD
unfoldable pub segment_bytes : Segment → List ℕ
segment_bytes segment =
    to_le_bytes w32 1 ++ to_le_bytes w32 (flags_number segment)
    ++ to_le_bytes w64 segment.offset ++ to_le_bytes w64 segment.start ++ to_le_bytes w64 segment.load
    ++ to_le_bytes w64 segment.file_size ++ to_le_bytes w64 segment.memory_size ++ to_le_bytes w64 4096

-- a segment stands before another in the program header table
abbrev pub starts_before : Segment → Segment → Bool
starts_before segment h = is_lt (nat_cmp segment.start h.start)

-- where the file bytes of the segments up to this one end
abbrev pub file_end_of : ℕ → Segment → ℕ
file_end_of end segment = if segment.file_size == 0 then end else segment.offset + segment.file_size
