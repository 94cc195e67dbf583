-- The layout that the code's state stands for, and what a step of it is to give.
use Rattle.std.specs.Prelude.{◌≡◌, ℕ, List, length, map, drop, Result, Ok, Err, ◌⊎◌}
use Rattle.ldmodel.specs.Placement.{Body}
use Rattle.ldmodel.specs.Fault.{Fault}
use Rattle.ldmodel.specs.Fault as fault
use Rattle.ldmodel.specs.Layout.{Layout}
use Rattle.ldmodel.specs.declared.rows.Piece as rows
use Rattle.place_terms.specs.Keyed.{piece_at, data_at, section_of}
use Rattle.place_terms.specs.Naming.{Naming, row_named}
use Rattle.place_terms.specs.SectionTable.{keyed_piece}
use Rattle.place_terms.specs.LayoutSymbols.{named}
use Rattle.place_sections.specs.declared.state.LayoutCursor.{LayoutCursor}
use Rattle.place_sections.specs.declared.state.PlacedOutputs.{PlacedOutputs}
use Rattle.place_sections.specs.declared.state.CurrentOutput.{CurrentOutput}
use Rattle.place_sections.specs.declared.stop.LayoutStop.{LayoutStop}
use Rattle.place_sections.specs.declared.stop.LayoutStop.TheVariants as stop
use Rattle.growth.specs.Memory.{no_memory}

abbrev pub layout_of : Naming → LayoutCursor → PlacedOutputs → Layout
layout_of n h d = record {
  dot = h.dot;
  dots = h.dots.items;
  inputs = h.inputs;
  symbols = named h.symbols;
  regions = d.regions;
  sections = map (section_of n) d.sections.list;
}

-- a body that starts there, with this row
abbrev pub body_from : Naming → LayoutCursor → PlacedOutputs → ℕ → List rows.Piece → Body
body_from n h d start row = record {
  layout = layout_of n h d;
  start = start;
  rest = row_named n (drop (length h.pieces.items) row);
  pieces = map (piece_at n) (map keyed_piece h.pieces.items);
  data_commands = map data_at h.data_commands.items;
}

abbrev pub body_of : Naming → LayoutCursor → CurrentOutput → Body
body_of n h f = body_from n h f.done.now f.start f.row.now

-- the fault that stands in a stop; where memory ran out there is none, and any will do
abbrev pub fault_of : LayoutStop → Fault
fault_of (stop.NotReady line name) = fault.NotReady line name.now
fault_of (stop.NoValue line) = fault.NoValue line
fault_of (stop.MovedBack line) = fault.MovedBack line
fault_of (stop.RegionFull section region) = fault.RegionFull section.now region.now
fault_of (stop.PastAddressSpace line) = fault.PastAddressSpace line
fault_of (stop.NoMemory _) = fault.NoValue 0

-- what the code gives, with the definition's faults
abbrev pub outcome : {X : Type 0} → Result X LayoutStop → Result X Fault
outcome (Ok x) = Ok x
outcome (Err f) = Err (fault_of f)

-- a step is to give this state, or a fault; or else memory ran out
abbrev pub Gives : {S T : Type 0} → Result S Fault → S → Result T LayoutStop → Type 0
Gives wanted new (Ok _) = wanted ≡ Ok new
Gives wanted new (Err f) = (wanted ≡ Err (fault_of f)) ⊎ (f ≡ stop.NoMemory no_memory)
