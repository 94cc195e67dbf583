-- The linked sections of an object (gABI, "Sections").
use Rattle.std.specs.Prelude.{ℕ, zero, suc, List, [], ◌++◌, Option, Some, None, unwrap_or, option_to_list}
use Rattle.elfobj_file.specs.ElfHeader.{e_shnum, e_shstrndx}
use Rattle.elfobj_file.specs.SectionHeaders.{header, file_bytes}
use Rattle.elfobj_file.specs.LinkedKinds.{linked_kind}
use Rattle.elfobj_file.specs.Names.{string_at}
use Rattle.elfobj_file.specs.Relocations.{relocations_at}
use Rattle.elfobj_file.specs.declared.section_header.SectionHeader.{SectionHeader}
use Rattle.elfobj_file.specs.declared.section.SectionIndex.{SectionIndex}
use Rattle.elfobj_file.specs.declared.section.Section.{Section}
use Rattle.elfobj_file.specs.declared.section.SectionKind.{SectionKind}
use Rattle.elfobj_file.specs.declared.section.SectionKind.TheVariants.{Nobits}
use Rattle.elfobj_file.specs.declared.relocation.Relocation.{Relocation}

-- a linked section, with its own bytes (none for NOBITS) and its relocations in table order
pub record LinkedSection : Type 0 where
  pub number : SectionIndex
  pub name : List ℕ
  pub kind : SectionKind
  pub flags : ℕ
  pub size : ℕ
  pub alignment : ℕ
  pub bytes : List ℕ
  pub relocations : List Relocation

-- what callers see without the name, the bytes and the relocations
abbrev pub section_of : LinkedSection → Section
section_of section = record {
  number = section.number;
  kind = section.kind;
  flags = section.flags;
  size = section.size;
  alignment = section.alignment;
}

-- the table that names of sections stand in
unfoldable pub name_table : List ℕ → List ℕ
name_table bytes = file_bytes bytes (header bytes (e_shstrndx bytes))

abbrev pub name_of : List ℕ → SectionHeader → Option (List ℕ)
name_of bytes header = string_at (name_table bytes) header.sh_name

-- the bytes of a linked section
abbrev pub contents : List ℕ → SectionHeader → SectionKind → List ℕ
contents bytes header Nobits = []
contents bytes header _ = file_bytes bytes header

-- the section of header number k, of a kind that is linked
abbrev pub linked_as : List ℕ → ℕ → SectionHeader → SectionKind → LinkedSection
linked_as bytes index header kind = record {
  number = record { 0 = index };
  name = unwrap_or (name_of bytes header) [];
  kind = kind;
  flags = header.sh_flags;
  size = header.sh_size;
  alignment = header.sh_addralign;
  bytes = contents bytes header kind;
  relocations = relocations_at bytes index;
}

-- the section of header number k, if it is a linked one
abbrev pub linked_section : List ℕ → ℕ → SectionHeader → Option SectionKind → Option LinkedSection
linked_section bytes index header None = None
linked_section bytes index header (Some kind) = Some (linked_as bytes index header kind)

abbrev pub linked_at : List ℕ → ℕ → Option LinkedSection
linked_at bytes index = linked_section bytes index (header bytes index) (linked_kind (header bytes index))

-- the linked sections among the first n headers, in the table's order
abbrev pub sections_below : List ℕ → ℕ → List LinkedSection
sections_below bytes zero = []
sections_below bytes (suc n) = sections_below bytes n ++ option_to_list (linked_at bytes n)

unfoldable pub sections_of : List ℕ → List LinkedSection
sections_of bytes = sections_below bytes (e_shnum bytes)
