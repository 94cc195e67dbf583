-- The link of a project: a function of the project alone. It goes in phases, which are this project's own: names,
-- gathering, layout, relocation, assertions. The faults are those of the first phase that has any; without one there
-- are the image and the map.
use Rattle.std.specs.Prelude.{ℕ, ◌^◌, List, [], ◌∷◌, ◌++◌, map, option_to_list, Result, Ok, Err, nat_lt, if◌then◌else◌}
use Rattle.ldmodel.specs.Assertions.{assertion_faults}
use Rattle.ldmodel.specs.Fault.{Fault, UndefinedEntry, Orphan, ImageTooLong}
use Rattle.ldmodel.specs.Fault as fault
use Rattle.ldmodel.specs.FaultText.{fault_text}
use Rattle.ldmodel.specs.Image.{image}
use Rattle.ldmodel.specs.Layout.{Layout}
use Rattle.ldmodel.specs.Live.{orphans}
use Rattle.ldmodel.specs.MapText.{map_text}
use Rattle.ldmodel.specs.NameFaults.{DuplicateDefinition, duplicates, undefined_entry}
use Rattle.ldmodel.specs.Names.{provided}
use Rattle.ldmodel.specs.Overlaps.{overlaps}
use Rattle.ldmodel.specs.Placement.{placement}
use Rattle.ldmodel.specs.Project.{Project}
use Rattle.ldmodel.specs.Relocations.{relocation_faults}
use Rattle.ldmodel.specs.Rows.{rows}
use Rattle.ldmodel.specs.SectionHeaders.{image_length}
use Rattle.ldmodel.specs.Sections.{InputSection}

-- status 0 with the image and the map; or status 1 with fault lines
pub record Link : Type 0 where
  pub status : ℕ
  pub image : List ℕ
  pub map : List ℕ
  pub faults : List ℕ

abbrev pub duplicate_fault : DuplicateDefinition → Fault
duplicate_fault duplicate = fault.DuplicateDefinition duplicate.name duplicate.object duplicate.first

-- names that are defined twice, then an entry symbol that nothing defines
unfoldable pub name_faults : Project → List Fault
name_faults project =
    map duplicate_fault (duplicates project) ++ map UndefinedEntry (option_to_list (undefined_entry project))

-- live input sections that no input statement takes
unfoldable pub gathering_faults : Project → List Fault
gathering_faults project = map (λ (x : InputSection). Orphan x.object x.name) (orphans project)

-- the longest image (this project's limit)
abbrev pub max_image_length : ℕ
max_image_length = 2 ^ 28

-- a layout whose image is not too long
abbrev pub of_length : ℕ → Layout → Result Layout (List Fault)
of_length length layout = if nat_lt max_image_length length then Err (ImageTooLong length ∷ []) else Ok layout

-- a layout in which no output sections overlap
abbrev pub without_overlaps : Project → Layout → List Fault → Result Layout (List Fault)
without_overlaps project layout [] = of_length (image_length project layout) layout
without_overlaps project layout (first ∷ rest) = Err (first ∷ rest)

abbrev pub laid_out : Project → Result Layout Fault → Result Layout (List Fault)
laid_out project (Err fault) = Err (fault ∷ [])
laid_out project (Ok layout) = without_overlaps project layout (overlaps layout.sections)

-- the layout, or its faults: the first of the placement; else the output sections that overlap; else the length
unfoldable pub layout : Project → Result Layout (List Fault)
layout project = laid_out project (placement project.script (rows project) (provided project))

abbrev pub faulty : List Fault → Link
faulty faults = record { status = 1; image = []; map = []; faults = fault_text faults }

abbrev pub good : Project → Layout → Link
good project layout = record { status = 0; image = image project layout; map = map_text project layout; faults = [] }

-- what comes next, unless a phase has faults
abbrev pub unless : List Fault → Link → Link
unless [] next = next
unless (first ∷ rest) next = faulty (first ∷ rest)

abbrev pub relocated : Project → Layout → Link
relocated project layout =
    unless (relocation_faults project layout) (unless (assertion_faults project layout) (good project layout))

abbrev pub placed : Project → Result Layout (List Fault) → Link
placed project (Err faults) = faulty faults
placed project (Ok layout) = relocated project layout

unfoldable pub link : Project → Link
link project = unless (name_faults project) (unless (gathering_faults project) (placed project (layout project)))
