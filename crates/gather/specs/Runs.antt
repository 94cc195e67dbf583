-- Linked sections of an object by runs of those that the same statement takes.
use Rattle.std.specs.Prelude.{ℕ, List, [], ◌∷◌, ◌++◌, drop, flat_map, map, replicate, take, Option, Some}
use Rattle.elfobj.specs.declared.section.Section.{Section}
use Rattle.ldmodel.specs.declared.names.ObjectPlace.{ObjectPlace}
use Rattle.ldmodel.specs.declared.rows.InputIndex.{InputIndex}
use Rattle.ldmodel.specs.declared.rows.Piece.{Piece}
use Rattle.ldmodel.specs.declared.sections.Part.TheVariants.{InTable}
use Rattle.gather.specs.GatheredSections.{as_piece}
use Rattle.gather.specs.Matches.{number_of}
use Rattle.gather.specs.declared.gathered_section.GatheredSection.{GatheredSection}
use Rattle.gather.specs.declared.runs.TakenRun.{TakenRun}

-- of each section of a run the number of the statement that takes it
abbrev pub numbers_in : TakenRun → List (Option ℕ)
numbers_in run = replicate run.count (number_of run.statement)

abbrev pub numbers_of : List TakenRun → List (Option ℕ)
numbers_of runs = flat_map numbers_in runs

-- linked section s of an object, where this statement takes it
abbrev pub gathered : ObjectPlace → Option InputIndex → Section → GatheredSection
gathered key statement s = record {
  section = record { object = key; part = InTable s.number };
  kind = s.kind;
  flags = s.flags;
  size = s.size;
  alignment = s.alignment;
  statement = statement;
}

-- the same as a piece
abbrev pub linked_piece : ObjectPlace → InputIndex → Section → Piece
linked_piece key statement s = as_piece (gathered key (Some statement) s) statement

-- those of an object, one run after the other
abbrev pub gathered_by : ObjectPlace → List Section → List TakenRun → List GatheredSection
gathered_by key sections [] = []
gathered_by key sections (run ∷ runs) =
    map (gathered key run.statement) (take run.count sections) ++ gathered_by key (drop run.count sections) runs
