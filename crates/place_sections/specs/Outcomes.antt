-- What the layout of a script comes to.
use Rattle.std.specs.Prelude.{◌≡◌, ◌≢◌, ℕ, ◌+◌, List, [], ⊤, length, map, Ok}
use Rattle.ldscript.specs.statements.declared.statement.Statement.{Statement}
use Rattle.ldmodel.specs.Fault.{Fault}
use Rattle.ldmodel.specs.FaultCode.{fault_of}
use Rattle.ldmodel.specs.Layout.{Layout, nothing_placed}
use Rattle.ldmodel.specs.Overlaps.{overlaps}
use Rattle.ldmodel.specs.Placement.{placement}
use Rattle.ldmodel.specs.Project.{Project}
use Rattle.ldmodel.specs.Rows.{Piece}
use Rattle.ldmodel.specs.declared.fault.Fault as code_fault
use Rattle.place_terms.specs.ProvidedTable.{provided_names}
use Rattle.place_sections.specs.Boundaries.{AreBoundariesOf}
use Rattle.place_sections.specs.Places.{AreOf, IsFirstFault, Places, StandsFor}
use Rattle.place_sections.specs.declared.fault.PlaceFault.{PlaceFault}
use Rattle.place_sections.specs.declared.fault.PlaceFault.TheVariants.{First, Overlapping, NoMemory}

-- a fault by its names is reported
abbrev pub Reports : List Statement → Fault → PlaceFault → Type 0
Reports script fault (First f) = StandsFor script f fault
Reports script fault (Overlapping fs) = ⊥
Reports script fault (NoMemory _) = ⊤

-- the placement stops at its first fault, or memory ran out
abbrev pub Stops : List Statement → List (List Piece) → List (List ℕ) → PlaceFault → Type 0
Stops script rows provided (First f) = IsFirstFault script rows provided f
Stops script rows provided (Overlapping fs) = ⊥
Stops script rows provided (NoMemory _) = ⊤

-- places of a layout in which no output sections overlap
pub record IsGood (script : List Statement) (rows : List (List Piece)) (provided : List (List ℕ)) (p : Places)
    : Type 0 where
  pub layout : Layout
  pub placed : placement script rows provided ≡ Ok layout
  pub places : AreOf script layout p
  pub boundaries : AreBoundariesOf rows provided nothing_placed script p.boundaries
  pub many : length p.boundaries ≡ length layout.sections + 1
  pub in_force : provided_names script p.provided ≡ provided
  pub apart : overlaps layout.sections ≡ []

-- there is a layout, but output sections overlap, and these are all the faults of it
pub record AreOverlapFaults (script : List Statement) (rows : List (List Piece)) (provided : List (List ℕ))
    (fs : List code_fault.Fault) : Type 0 where
  pub layout : Layout
  pub placed : placement script rows provided ≡ Ok layout
  pub some : overlaps layout.sections ≢ []
  pub all : (project : Project) (number : ℕ → ℕ) → project.script ≡ script → map (fault_of project number) fs
      ≡ overlaps layout.sections

-- why there are no such places
abbrev pub IsWhy : List Statement → List (List Piece) → List (List ℕ) → PlaceFault → Type 0
IsWhy script rows provided (First f) = IsFirstFault script rows provided f
IsWhy script rows provided (Overlapping fs) = AreOverlapFaults script rows provided fs.items
IsWhy script rows provided (NoMemory _) = ⊤
