-- The headers at the beginning of the image (gABI, "ELF Header" and "Program Header"; numbers little-endian). The
-- program headers follow the ELF header and stand in ascending order of p_vaddr, as the gABI asks of PT_LOAD.
use Rattle.std.specs.Prelude.{ℕ, ◌+◌, List, [], ◌∷◌, ◌++◌, replicate, nat_lt, ◌==◌, if◌then◌else◌}
use Rattle.std.specs.List.{flat_map}
use Rattle.std.specs.Int.{to_le_bytes, w16, w32, w64}
use Rattle.ldmodel.specs.Sorting.{sort_by}
use Rattle.ldmodel.specs.Segments.{Segment, Group, segment_start, segment_load, file_size, memory_size, page_size}

-- 64 bytes: the entry point, the number of program headers, where the section headers stand and how many they are, and
-- which of them is that of their names
unfoldable pub elf_header : (entry program_headers section_headers_at section_headers names : ℕ) → List ℕ
elf_header entry program_headers section_headers_at section_headers names =
    -- e_ident: magic, ELFCLASS64, ELFDATA2LSB, EV_CURRENT
    (0x7F ∷ 0x45 ∷ 0x4C ∷ 0x46 ∷ 2 ∷ 1 ∷ 1 ∷ []) ++ replicate 9 0
    -- e_type ET_EXEC, e_machine EM_X86_64, e_version
    ++ to_le_bytes w16 2 ++ to_le_bytes w16 62 ++ to_le_bytes w32 1
    -- e_entry, e_phoff, e_shoff
    ++ to_le_bytes w64 entry ++ to_le_bytes w64 (if program_headers == 0 then 0 else 64)
    ++ to_le_bytes w64 section_headers_at
    -- e_flags, e_ehsize, e_phentsize, e_phnum
    ++ to_le_bytes w32 0 ++ to_le_bytes w16 64 ++ to_le_bytes w16 56 ++ to_le_bytes w16 program_headers
    -- e_shentsize, e_shnum, e_shstrndx
    ++ to_le_bytes w16 64 ++ to_le_bytes w16 section_headers ++ to_le_bytes w16 names

-- PF_R, PF_W, PF_X: a segment may be read, and what its sections may
abbrev pub segment_flags : Group → ℕ
segment_flags group = 4 + (if group.first.writable then 2 else 0) + (if group.first.executable then 1 else 0)

-- 56 bytes of a PT_LOAD: p_type, p_flags; p_offset, p_vaddr, p_paddr; p_filesz, p_memsz, p_align
unfoldable pub program_header : Segment → List ℕ
program_header segment =
    to_le_bytes w32 1 ++ to_le_bytes w32 (segment_flags segment.group)
    ++ to_le_bytes w64 segment.offset ++ to_le_bytes w64 (segment_start segment)
    ++ to_le_bytes w64 (segment_load segment)
    ++ to_le_bytes w64 (file_size segment.group) ++ to_le_bytes w64 (memory_size segment.group)
    ++ to_le_bytes w64 page_size

abbrev pub ascending : List Segment → List Segment
ascending segments = sort_by (λ (one other : Segment). nat_lt (segment_start one) (segment_start other)) segments

abbrev pub program_headers : List Segment → List ℕ
program_headers segments = flat_map program_header (ascending segments)
