-- Which sections are linked: those with SHF_ALLOC and one of the types of `SectionKinds` (gABI, "Sections"; psABI,
-- "Section types").
use Rattle.std.specs.Prelude.{Option, None, Bool, not, ◌==◌, if◌then◌else◌, bit_and}
use Rattle.elfobj_file.specs.SectionKinds.{kind_of}
use Rattle.elfobj_file.specs.declared.section_header.SectionHeader.{SectionHeader}
use Rattle.elfobj_file.specs.declared.section.SectionKind.{SectionKind}
use Rattle.elfobj_file.specs.declared.constants.TheConstants.{SHF_ALLOC}

abbrev pub is_alloc : SectionHeader → Bool
is_alloc header = not (bit_and header.sh_flags SHF_ALLOC == 0)

abbrev pub linked_kind : SectionHeader → Option SectionKind
linked_kind header = if is_alloc header then kind_of header.sh_type else None
