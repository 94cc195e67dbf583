-- Where everything of a script stands, as the code keeps it.
use Rattle.std.specs.Prelude.{◌≡◌, ℕ, ◌+◌, ◌^◌, ◌<◌, List, length, map, flat_map, Ok, Err}
use Rattle.std.specs.List.{All, enumerate_from}
use Rattle.ldscript.specs.statements.declared.statement.Statement.{Statement}
use Rattle.ldmodel.specs.Fault.{Fault}
use Rattle.ldmodel.specs.FaultCode.{fault_of}
use Rattle.ldmodel.specs.Layout.{Layout, PlacedOutput, nothing_placed}
use Rattle.ldmodel.specs.PlacementView.{data_of, numbered, placed_of, region_of, starts_of, symbol_of}
use Rattle.ldmodel.specs.Placement.{placement}
use Rattle.ldmodel.specs.Project.{Project}
use Rattle.ldmodel.specs.Rows.{Piece}
use Rattle.ldmodel.specs.declared.fault.Fault as code_fault
use Rattle.ldmodel.specs.declared.placed.Placed.{Placed}
use Rattle.ldmodel.specs.declared.placed.PlacedData.{PlacedData}
use Rattle.ldmodel.specs.declared.placed.PlacedRegion.{PlacedRegion}
use Rattle.ldmodel.specs.declared.script_symbol.DirectiveIndex.{DirectiveIndex}
use Rattle.ldmodel.specs.declared.script_symbol.ScriptSymbol.{ScriptSymbol}
use Rattle.place_terms.specs.ProvidedTable.{provided_names}
use Rattle.place_terms.specs.LayoutSymbols.{AreFound, Rises}
use Rattle.place_sections.specs.Boundaries.{AreBoundariesOf}
use Rattle.place_sections.specs.declared.boundary.Boundary.{Boundary}

-- what a placement has, part by part
pub record Places : Type 0 where
  pub sections : List Placed
  pub counts : List ℕ
  pub starts : List ℕ
  pub data_commands : List PlacedData
  pub dots : List ℕ
  pub symbols : List ScriptSymbol
  pub regions : List PlacedRegion
  pub boundaries : List Boundary
  pub provided : List DirectiveIndex

-- the end of each output section is an address
abbrev pub Ends : List Placed → Type 0
Ends sections = All (λ (q : Placed). q.start + q.size < 2 ^ 64) sections

-- they are those of the layout of a script, and its symbols are found under the numbers of their commands, which rise
pub record AreOf (script : List Statement) (layout : Layout) (p : Places) : Type 0 where
  pub sections : p.sections ≡ map placed_of layout.sections
  pub counts : p.counts ≡ map (λ (output : PlacedOutput). length output.pieces) layout.sections
  pub starts : p.starts ≡ flat_map starts_of layout.sections
  pub data_commands : map data_of p.data_commands ≡ flat_map numbered (enumerate_from 0 layout.sections)
  pub dots : p.dots ≡ layout.dots
  pub symbols : map (symbol_of script) p.symbols ≡ layout.symbols
  pub found : AreFound script p.symbols
  pub rises : Rises p.symbols
  pub regions : p.regions ≡ map region_of layout.regions

-- the script with these rows, in which these PROVIDEs are in force, has a layout, and these are its places, with where
-- it had come to before each output section and after all statements of SECTIONS
pub record IsPlacement (script : List Statement) (rows : List (List Piece)) (provided : List (List ℕ)) (p : Places)
    : Type 0 where
  pub layout : Layout
  pub placed : placement script rows provided ≡ Ok layout
  pub places : AreOf script layout p
  pub boundaries : AreBoundariesOf rows provided nothing_placed script p.boundaries
  pub many : length p.boundaries ≡ length layout.sections + 1
  pub in_force : provided_names script p.provided ≡ provided

-- a fault of the code stands for one of the definition, whatever project has the script
abbrev pub StandsFor : List Statement → code_fault.Fault → Fault → Type 0
StandsFor script f fault =
    (project : Project) (number : ℕ → ℕ) → project.script ≡ script → fault_of project number f ≡ fault

-- the first fault of the layout
pub record IsFirstFault (script : List Statement) (rows : List (List Piece)) (provided : List (List ℕ))
    (f : code_fault.Fault) : Type 0 where
  pub fault : Fault
  pub stops : placement script rows provided ≡ Err fault
  pub shown : StandsFor script f fault
