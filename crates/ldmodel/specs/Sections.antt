-- Input sections. An input section is a section of an object that takes part in the link, or the common block of a
-- symbol, for which the linker makes room (gABI, "Sections"; GNU ld manual, "Input Section for Common Symbols").
use Rattle.std.specs.Prelude.{ℕ, List, Bool, false, ◌&&◌, ◌==◌}
use Rattle.elfobj.specs.declared.relocation.Relocation.{Relocation}
use Rattle.elfobj.specs.declared.section.SectionKind.{SectionKind}
use Rattle.ldmodel.specs.declared.sections.Part.{Part}
use Rattle.ldmodel.specs.declared.sections.Part.TheVariants.{InTable, InCommon}

-- which input section it is: the place of its object in the project, from 0, and which part of the object it is: the
-- section of a header, `InTable`, or the common block of a symbol, `InCommon`
pub record SectionId : Type 0 where
  pub object : ℕ
  pub part : Part

-- what a link takes of an input section: the name of its object, and what the section header says of it; a common block
-- has no relocations
pub record InputSection : Type 0 where
  pub id : SectionId
  pub object : List ℕ
  pub name : List ℕ
  pub kind : SectionKind
  pub flags : ℕ
  pub size : ℕ
  pub alignment : ℕ
  pub relocations : List Relocation

abbrev pub is_same_part : Part → Part → Bool
is_same_part (InTable one) (InTable other) = one.0 == other.0
is_same_part (InCommon one) (InCommon other) = one.0 == other.0
is_same_part _ _ = false

abbrev pub is_same : SectionId → SectionId → Bool
is_same a b = (a.object == b.object) && is_same_part a.part b.part
