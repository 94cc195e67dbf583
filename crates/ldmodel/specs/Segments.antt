-- Segments: what of the program is loaded as one, and where it stands in the file (gABI, "Program Header": the
-- addresses and the file offset of a loaded segment are congruent modulo the page size; x86-64 psABI: pages of 4,096
-- bytes). Which sections share a segment is this project's choice: of the output sections of nonzero size, in the order
-- of the script, neighbours for which `shares_segment` holds.
use Rattle.std.specs.Prelude.{ℕ, ◌+◌, ◌-◌, ◌*◌, ◌%◌, List, [], ◌∷◌, length, map, filter, find, flat_map, fold, Bool}
use Rattle.std.specs.Prelude.{not, ◌&&◌, ◌==◌, nat_lt, nat_le, bytes_eq, if◌then◌else◌}
use Rattle.std.specs.Option.{option_map_or}
use Rattle.std.specs.Bool.{beq}
use Rattle.ldmodel.specs.Layout.{PlacedOutput}
use Rattle.ldmodel.specs.Placement.{difference_of}

-- the size of a page
abbrev pub page_size : ℕ
page_size = 4096

abbrev pub end_of : PlacedOutput → ℕ
end_of output = output.start + output.size

-- a section stands in the segment of the one before it: their flags are equal, and so are their distances from start to
-- load address; it begins at the other's end or less than a page past it; and it isn't so that it alone has file bytes
abbrev pub shares_segment : PlacedOutput → PlacedOutput → Bool
shares_segment p output =
    beq p.writable output.writable && beq p.executable output.executable
    && (difference_of p == difference_of output)
    && nat_le (end_of p) output.start
    && nat_lt output.start (end_of p + page_size)
    && not (output.has_file_bytes && not p.has_file_bytes)

-- the sections of a segment: the first, and the others
pub record Group : Type 0 where
  pub first : PlacedOutput
  pub others : List PlacedOutput

abbrev pub group_sections : Group → List PlacedOutput
group_sections group = group.first ∷ group.others

-- a section before the groups of those after it
abbrev pub with_front : PlacedOutput → List Group → List Group
with_front output [] = record { first = output; others = [] } ∷ []
with_front output (group ∷ rest) =
    if shares_segment output group.first then record { first = output; others = group_sections group } ∷ rest
    else (record { first = output; others = [] } ∷ group ∷ rest)

-- neighbours that share a segment stand in one group
unfoldable pub groups : List PlacedOutput → List Group
groups [] = []
groups (first ∷ rest) = with_front first (groups rest)

-- a group, and where it begins in the file
pub record Segment : Type 0 where
  pub offset : ℕ
  pub group : Group

-- p_vaddr and p_paddr: the addresses of the first section
abbrev pub segment_start : Segment → ℕ
segment_start segment = segment.group.first.start

abbrev pub segment_load : Segment → ℕ
segment_load segment = segment.group.first.load

-- the end of a section, counted from the segment's start
abbrev pub reach : Group → PlacedOutput → ℕ
reach group output = end_of output - group.first.start

-- p_filesz: up to the end of the last section with file bytes, 0 without one
abbrev pub file_size : Group → ℕ
file_size group =
    fold (λ n (output : PlacedOutput). if output.has_file_bytes then reach group output else n) 0 (group_sections group)

-- p_memsz: up to the end of the last section
abbrev pub memory_size : Group → ℕ
memory_size group = fold (λ n (output : PlacedOutput). reach group output) 0 (group_sections group)

-- the least number not below an end that is congruent to an address modulo the page size
abbrev pub congruent : ℕ → ℕ → ℕ
congruent end at = end + (at % page_size + (page_size - end % page_size)) % page_size

-- a segment that begins at the first place past an end
abbrev pub begun : ℕ → Group → Segment
begun end group = record { offset = congruent end group.first.start; group = group }

-- the end of the last file bytes so far
abbrev pub file_end : ℕ → Segment → ℕ
file_end end segment = if file_size segment.group == 0 then end else segment.offset + file_size segment.group

-- segments one after the other, the first past an end
abbrev pub begun_from : ℕ → List Group → List Segment
begun_from end [] = []
begun_from end (group ∷ rest) = begun end group ∷ begun_from (file_end end (begun end group)) rest

-- where the headers end: the ELF header's 64 bytes, and 56 for each program header
abbrev pub headers_end : ℕ → ℕ
headers_end count = 64 + 56 * count

abbrev pub nonempty : List PlacedOutput → List PlacedOutput
nonempty sections = filter (λ (output : PlacedOutput). not (output.size == 0)) sections

unfoldable pub segments : List PlacedOutput → List Segment
segments sections = let gs : List Group = groups (nonempty sections) in begun_from (headers_end (length gs)) gs

-- where the loaded part of the file ends: at the end of the last file bytes, or of the headers
abbrev pub loaded_end : List Segment → ℕ
loaded_end segments = fold file_end (headers_end (length segments)) segments

-- an output section, and where it begins in the file
pub record SectionInFile : Type 0 where
  pub offset : ℕ
  pub section : PlacedOutput

abbrev pub in_segment : Segment → PlacedOutput → SectionInFile
in_segment segment output =
    record { offset = segment.offset + (output.start - segment_start segment); section = output }

-- the output sections of nonzero size in the file
abbrev pub in_file : List Segment → List SectionInFile
in_file segments = flat_map (λ (segment : Segment). map (in_segment segment) (group_sections segment.group)) segments

-- where an output section begins in the file; 0 where its size is 0
abbrev pub file_offset : List Segment → PlacedOutput → ℕ
file_offset segments output =
    option_map_or (λ (x : SectionInFile). x.offset)
    (find (λ (x : SectionInFile). bytes_eq x.section.name output.name) (in_file segments)) 0
