-- What the tests of the section headers leave known of them.
use Rattle.std.specs.Prelude.{◌≡◌, ℕ, ◌+◌, ◌≤◌, List, Bool, length, map, None, true, false}
use Rattle.std.specs.Option.{option_map_or}
use Rattle.elfobj_file.specs.ElfHeader.{e_shstrndx}
use Rattle.elfobj_file.specs.Names.{is_name}
use Rattle.elfobj.specs.PartSpans.{AreRead, AreNamed, ArePlaced, IsFileWithin, name_in, bytes_in, is_relocated}
use Rattle.elfobj.specs.PartSpans.{IsWithin}
use Rattle.elfobj_file.specs.Refusal.{object_refusal, holds}
use Rattle.elfobj_file.specs.SectionHeaders.{header}
use Rattle.elfobj_file.specs.Sections.{sections_of, LinkedSection, section_of, name_of}
use Rattle.elfobj_file.specs.Symbols.{symbols_of}
use Rattle.elfobj.specs.declared.part_spans.PartSpans.{PartSpans}
use Rattle.elfobj_file.specs.declared.span.Span.{Span}
use Rattle.elfobj_file.specs.declared.relocation.Relocation.{Relocation}
use Rattle.elfobj_file.specs.declared.refusal.ObjectRefusal.TheVariants.{SectionBounds, SectionProfile}
use Rattle.elfobj_file.specs.declared.section.Section.{Section}
use Rattle.elfobj_file.specs.declared.section.SectionKind.{SectionKind}
use Rattle.elfobj_file.specs.declared.section_header.SectionHeader.{SectionHeader}
use Rattle.elfobj_file.specs.declared.symbol.Symbol.{Symbol}

-- no test of the section headers alone refuses
pub record PassesTests (bytes : List ℕ) : Type 0 where
  pub bounds : holds bytes SectionBounds ≡ false
  pub profile : holds bytes SectionProfile ≡ false

-- a header, whose section has a name within the limits and bytes inside the file
pub record IsLinkable (bytes : List ℕ) (h : SectionHeader) (kind : SectionKind) : Type 0 where
  pub name : option_map_or is_name (name_of bytes h) false ≡ true
  pub file : IsFileWithin (length bytes) h kind

-- the header of the table of names
pub record IsNameTable (bytes : List ℕ) (names : SectionHeader) : Type 0 where
  pub header : names ≡ header bytes (e_shstrndx bytes)
  pub within : names.sh_offset + names.sh_size ≤ length bytes

-- a linked section as callers see it, and the place of its name and bytes
pub record IsPlaced (file : List ℕ) (linked : LinkedSection) (read : Section) (place : PartSpans) : Type 0 where
  pub section : read ≡ section_of linked
  pub name : name_in file place ≡ linked.name
  pub bytes : bytes_in file place ≡ linked.bytes
  pub within : IsWithin (length file) place

-- the parts of an object, as lists of what callers see and places in its bytes
pub record ArePartsOf (file : List ℕ) (sections : List Section) (part_spans : List PartSpans) (symbols : List Symbol)
    (names : List Span) (relocations : List Relocation) : Type 0 where
  pub sections_read : AreRead file (sections_of file) sections part_spans
  pub symbols_read : AreNamed file (symbols_of file) symbols names
  pub relocations_read : ArePlaced (map (λ s. s.relocations) (sections_of file)) relocations part_spans

-- what an object keeps: bytes that no test refuses, what was read of them, and which sections have relocations
pub record IsObject (file : List ℕ) (sections : List Section) (part_spans : List PartSpans) (symbols : List Symbol)
    (names : List Span) (relocations : List Relocation) (relocated : List Bool) : Type 0 where
  pub refusal : object_refusal file ≡ None
  pub read : ArePartsOf file sections part_spans symbols names relocations
  pub relocated_are : relocated ≡ map is_relocated part_spans
