-- Input sections as the code gathers them.
use Rattle.std.specs.Prelude.{ℕ, ◌≡◌, ◌++◌, List, map, Bool, Option, Some, None, bit_or}
use Rattle.std.specs.List.{filter_map}
use Rattle.std.specs.Option.{option_map}
use Rattle.elfobj.specs.file.declared.constants.TheConstants.{SHF_ALLOC, SHF_WRITE}
use Rattle.elfobj.specs.declared.section.SectionKind.{SectionKind}
use Rattle.elfobj.specs.declared.section.SectionKind.TheVariants.{Nobits}
use Rattle.ldmodel.specs.FirstMatch.{first_match}
use Rattle.ldmodel.specs.CodeValues.{section_id}
use Rattle.ldmodel.specs.InputSections.{input_sections}
use Rattle.ldmodel.specs.Project.{Project}
use Rattle.ldmodel.specs.Sections.{InputSection, SectionId}
use Rattle.ldmodel.specs.declared.rows.InputIndex.{InputIndex}
use Rattle.ldmodel.specs.declared.rows.Piece.{Piece}
use Rattle.ldmodel.specs.declared.sections.Part.TheVariants.{InCommon}
use Rattle.ldmodel.specs.declared.sections.SectionRef.{SectionRef}
use Rattle.gather.specs.Apart.{AscendingSections}
use Rattle.gather.specs.declared.blocks.CommonBlock.{CommonBlock}
use Rattle.gather.specs.declared.gathered_section.GatheredSection.{GatheredSection}
use Rattle.gather.specs.LiveMarks.{marked}
use Rattle.gather.specs.Matches.{number_of}

-- an input section without names and relocations, which its id tells, and the statement that takes it
pub record Facts : Type 0 where
  pub id : SectionId
  pub kind : SectionKind
  pub flags : ℕ
  pub size : ℕ
  pub alignment : ℕ
  pub statement : Option ℕ

abbrev pub facts : Project → InputSection → Facts
facts project section = record {
  id = section.id;
  kind = section.kind;
  flags = section.flags;
  size = section.size;
  alignment = section.alignment;
  statement = first_match project.script section.object section.name;
}

abbrev pub shown_facts : GatheredSection → Facts
shown_facts x = record {
  id = section_id (λ key. key) x.section;
  kind = x.kind;
  flags = x.flags;
  size = x.size;
  alignment = x.alignment;
  statement = number_of x.statement;
}

-- these are the input sections of the project, in their order, whose objects have their sections in order
pub record AreGathered (project : Project) (xs : List GatheredSection) : Type 0 where
  pub facts : map shown_facts xs ≡ map (facts project) (input_sections project)
  pub ascending : AscendingSections project

-- what is known of a common block that object number i owns, where a statement of this number takes it
abbrev pub block_facts : ℕ → Option ℕ → CommonBlock → Facts
block_facts i number b = record {
  id = record { object = i; part = InCommon b.symbol };
  kind = Nobits;
  flags = bit_or SHF_ALLOC SHF_WRITE;
  size = b.size;
  alignment = b.alignment;
  statement = number;
}

-- sections with these facts come after those that are there
abbrev pub AddsFacts : (old new : List GatheredSection) → List Facts → Type 0
AddsFacts old new these = map shown_facts new ≡ map shown_facts old ++ these

-- a section as the piece of a statement
abbrev pub as_piece : GatheredSection → InputIndex → Piece
as_piece x n = record {
  statement = n;
  section = x.section;
  kind = x.kind;
  flags = x.flags;
  size = x.size;
  alignment = x.alignment;
}

-- a section as the piece of the statement that takes it, if one does
abbrev pub own_piece : GatheredSection → Option Piece
own_piece x = option_map (as_piece x) x.statement

-- the marked sections as pieces of the statements that take them
abbrev pub taken_in : List Bool → List GatheredSection → List Piece
taken_in marks xs = filter_map own_piece (marked marks xs)

-- the key of a section that no statement takes
abbrev pub untaken_by_none : SectionRef → Option InputIndex → Option SectionRef
untaken_by_none key None = Some key
untaken_by_none key (Some n) = None

abbrev pub untaken : GatheredSection → Option SectionRef
untaken x = untaken_by_none x.section x.statement
