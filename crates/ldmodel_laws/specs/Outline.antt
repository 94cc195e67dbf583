-- What names, layout and map of a link turn on, of an object: all of it but the bytes and the relocations of its
-- sections; and where sections are dropped that nothing refers to, also the symbols that its relocations name (this
-- project's own). An object that is compiled anew often differs from the one before it in the rest alone.
use Rattle.std.specs.Prelude.{◌≡◌, ℕ, List, Some, map, slice_get, true}
use Rattle.elfobj.specs.Sections.{LinkedSection}
use Rattle.elfobj.specs.Symbols.{NamedSymbol}
use Rattle.elfobj.specs.declared.relocation.Relocation.{Relocation}
use Rattle.elfobj.specs.declared.relocation.SymbolIndex.{SymbolIndex}
use Rattle.elfobj.specs.declared.section.SectionIndex.{SectionIndex}
use Rattle.elfobj.specs.declared.section.SectionKind.{SectionKind}
use Rattle.ldmodel.specs.Image.{file_headers}
use Rattle.ldmodel.specs.Layout.{Layout}
use Rattle.ldmodel.specs.Project.{NamedObject, Project}
use Rattle.ldmodel.specs.SectionHeaders.{image_length, tail}
use Rattle.ldmodel.specs.SymbolValues.{entry_point}
use Rattle.ldmodel.specs.Targets.{referenced_value}

-- a section without what it holds
pub record SectionOutline : Type 0 where
  pub number : SectionIndex
  pub name : List ℕ
  pub kind : SectionKind
  pub flags : ℕ
  pub size : ℕ
  pub alignment : ℕ

abbrev pub section_outline : LinkedSection → SectionOutline
section_outline section = record {
  number = section.number;
  name = section.name;
  kind = section.kind;
  flags = section.flags;
  size = section.size;
  alignment = section.alignment;
}

-- an object under its name, without what its sections hold
pub record ObjectOutline : Type 0 where
  pub name : List ℕ
  pub symbols : List NamedSymbol
  pub sections : List SectionOutline

abbrev pub object_outline : NamedObject → ObjectOutline
object_outline object = record {
  name = object.name;
  symbols = object.object.symbols;
  sections = map section_outline object.object.sections;
}

-- the symbols that the relocations of a section name, in their order
abbrev pub section_targets : LinkedSection → List SymbolIndex
section_targets section = map (λ (relocation : Relocation). relocation.symbol) section.relocations

-- those of an object, section by section
abbrev pub object_targets : NamedObject → List (List SymbolIndex)
object_targets object = map section_targets object.object.sections

-- the second project has, in one place, an object that differs from that of the first in what its sections hold alone;
-- where sections are dropped that nothing refers to, the relocations of each section name the same symbols, in their
-- order
pub record DiffersInContents (project q : Project) (place : ℕ) : Type 0 where
  pub script : project.script ≡ q.script
  pub options : project.options ≡ q.options
  pub references : project.options.gc ≡ true → map object_targets project.objects ≡ map object_targets q.objects
  pub outlines : map object_outline project.objects ≡ map object_outline q.objects
  pub others : (j : ℕ) → (j ≡ place → ⊥) → slice_get project.objects j ≡ slice_get q.objects j

-- what the image of the second project has in common with that of the first, at a layout
pub record HasSameFrame (project q : Project) (layout : Layout) : Type 0 where
  pub headers : file_headers project layout ≡ file_headers q layout
  pub tail : tail project layout ≡ tail q layout
  pub length : image_length project layout ≡ image_length q layout
  pub entry : entry_point project layout ≡ entry_point q layout
  pub references : (j : ℕ) (a b : NamedObject) (symbol : NamedSymbol) → slice_get project.objects j ≡ Some a
      → slice_get q.objects j ≡ Some b → referenced_value project layout a symbol ≡ referenced_value q layout b symbol
