-- The input sections of a project. Of an object these are its sections of the types that are linked, which have
-- SHF_ALLOC (gABI, "Sections"), and then the common blocks that it owns: for each name that is decided to be a common
-- one the linker makes room, in a section COMMON of the object whose entry comes first, which has no bytes in the
-- file (GNU ld manual, "Input Section for Common Symbols").
use Rattle.std.specs.Prelude.{ℕ, List, [], ◌++◌, map, flat_map, Option, Some, None, Bool, ◌&&◌, ◌==◌, if◌then◌else◌}
use Rattle.std.specs.Prelude.{codes, bit_or}
use Rattle.std.specs.List.{enumerate_from, filter_map}
use Rattle.elfobj.specs.Sections.{LinkedSection}
use Rattle.elfobj.specs.Symbols.{NamedSymbol}
use Rattle.elfobj.specs.file.declared.constants.TheConstants.{SHF_ALLOC, SHF_WRITE}
use Rattle.elfobj.specs.declared.section.SectionKind.TheVariants.{Nobits}
use Rattle.ldmodel.specs.Names.{Entry, Decision, Common, decision}
use Rattle.ldmodel.specs.Project.{NamedObject, Project}
use Rattle.ldmodel.specs.Sections.{InputSection}
use Rattle.ldmodel.specs.declared.sections.Part.TheVariants.{InTable, InCommon}

-- a linked section of object number i
abbrev pub linked_input : ℕ → NamedObject → LinkedSection → InputSection
linked_input i object section = record {
  id = record { object = i; part = InTable section.number };
  object = object.name;
  name = section.name;
  kind = section.kind;
  flags = section.flags;
  size = section.size;
  alignment = section.alignment;
  relocations = section.relocations;
}

-- the common block of an entry that owns one
abbrev pub common_block : List ℕ → Entry → (size alignment : ℕ) → InputSection
common_block object owner size alignment = record {
  id = record { object = owner.object; part = InCommon (record { 0 = owner.symbol }) };
  object = object;
  name = codes "COMMON";
  kind = Nobits;
  flags = bit_or SHF_ALLOC SHF_WRITE;
  size = size;
  alignment = alignment;
  relocations = [];
}

abbrev pub is_same_entry : Entry → Entry → Bool
is_same_entry a b = (a.object == b.object) && (a.symbol == b.symbol)

-- the block of an entry, where its name is decided so
abbrev pub block_of : List ℕ → Entry → Decision → Option InputSection
block_of object entry (Common owner size alignment) =
    if is_same_entry owner entry then Some (common_block object owner size alignment) else None
block_of object entry _ = None

-- that of an entry, if it owns one. A local entry, as the null entry is, owns none, since it declares no name
abbrev pub block_at : Project → ℕ → NamedObject → ℕ × NamedSymbol → Option InputSection
block_at project i object numbered =
    block_of object.name (record { object = i; symbol = numbered.0 }) (decision project numbered.1.name)

-- the common blocks that object number i owns, in the order of its symbol table
abbrev pub common_blocks : Project → ℕ → NamedObject → List InputSection
common_blocks project i object = filter_map (block_at project i object) (enumerate_from 0 object.object.symbols)

-- the sections of object number i
abbrev pub object_inputs : Project → ℕ → NamedObject → List InputSection
object_inputs project i object = map (linked_input i object) object.object.sections ++ common_blocks project i object

-- all input sections, in object order
unfoldable pub input_sections : Project → List InputSection
input_sections project =
    flat_map (λ (numbered : ℕ × NamedObject). object_inputs project numbered.0 numbered.1)
    (enumerate_from 0 project.objects)
