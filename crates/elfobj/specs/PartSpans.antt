-- What it means that places in a file or a list are those of names, bytes or relocations.
use Rattle.std.specs.Prelude.{◌≡◌, ℕ, ◌+◌, ◌≤◌, List, Bool, length, map, nat_lt}
use Rattle.std.specs.List.{All, slice_range}
use Rattle.elfobj_file.specs.Sections.{LinkedSection, section_of}
use Rattle.elfobj_file.specs.Symbols.{NamedSymbol}
use Rattle.elfobj.specs.declared.part_spans.PartSpans.{PartSpans}
use Rattle.elfobj_file.specs.Spans.{IsInside, bytes_at}
use Rattle.elfobj_file.specs.declared.span.Span.{Span}
use Rattle.elfobj_file.specs.declared.relocation.Relocation.{Relocation}
use Rattle.elfobj_file.specs.declared.section.Section.{Section}
use Rattle.elfobj_file.specs.declared.section.SectionKind.{SectionKind}
use Rattle.elfobj_file.specs.declared.section.SectionKind.TheVariants.{Nobits}
use Rattle.elfobj_file.specs.declared.section_header.SectionHeader.{SectionHeader}
use Rattle.elfobj_file.specs.declared.symbol.Symbol.{Symbol}

abbrev pub name_in : List ℕ → PartSpans → List ℕ
name_in bytes p = bytes_at bytes p.name

abbrev pub bytes_in : List ℕ → PartSpans → List ℕ
bytes_in bytes p = bytes_at bytes p.bytes

-- a name and bytes inside n bytes
pub record IsWithin (n : ℕ) (p : PartSpans) : Type 0 where
  pub name : IsInside n p.name
  pub bytes : IsInside n p.bytes

-- what a header of this kind names lies inside n bytes
abbrev pub IsFileWithin : ℕ → SectionHeader → SectionKind → Type 0
IsFileWithin n h Nobits = Unit {0}
IsFileWithin n h _ = h.sh_offset + h.sh_size ≤ n

-- the sections as callers see them, and the places of their names and bytes
pub record AreRead (file : List ℕ) (linked : List LinkedSection) (read : List Section)
    (part_spans : List PartSpans) : Type 0 where
  pub sections : read ≡ map section_of linked
  pub names : map (name_in file) part_spans ≡ map (λ s. s.name) linked
  pub bytes : map (bytes_in file) part_spans ≡ map (λ s. s.bytes) linked
  pub within : All (IsWithin (length file)) part_spans

-- part of a list of relocations
abbrev pub relocations_in : List Relocation → Span → List Relocation
relocations_in all s = slice_range all s.start s.end

-- it has relocations
abbrev pub is_relocated : PartSpans → Bool
is_relocated p = nat_lt p.relocations.start p.relocations.end

-- the symbols as callers see them, and the places of their names
pub record AreNamed (file : List ℕ) (named : List NamedSymbol) (read : List Symbol) (spans : List Span) : Type 0 where
  pub symbols : read ≡ map (λ s. s.symbol) named
  pub names : map (bytes_at file) spans ≡ map (λ s. s.name) named
  pub within : All (IsInside (length file)) spans

-- each stretch cuts the relocations of its section out of all of them; how they stand among all is not said
pub record AreRelocated (lists_of : List (List Relocation)) (all : List Relocation) (spans : List Span) : Type 0 where
  pub lists : map (relocations_in all) spans ≡ lists_of
  pub within : All (IsInside (length all)) spans

-- the stretches in these places do
pub record ArePlaced (lists_of : List (List Relocation)) (all : List Relocation)
    (part_spans : List PartSpans) : Type 0 where
  pub lists : map (λ p. relocations_in all p.relocations) part_spans ≡ lists_of
  pub within : All (λ p. IsInside (length all) p.relocations) part_spans
