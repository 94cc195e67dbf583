-- Ends of output sections, as the code comes to them.
use Rattle.std.specs.Prelude.{ℕ, ◌+◌, List, [], map, Result}
use Rattle.std.specs.Option.{option_and_then}
use Rattle.ldscript.specs.statements.declared.section.OutputSection.{OutputSection}
use Rattle.ldmodel.specs.Placement.{Body}
use Rattle.ldmodel.specs.Chain.{and_then}
use Rattle.ldmodel.specs.Fault.{Fault}
use Rattle.ldmodel.specs.Layout.{Layout, MemoryRegion, PlacedOutput, address, nothing_placed, region_named}
use Rattle.ldmodel.specs.Placement.{load_region, with_room}
use Rattle.place_terms.specs.Keyed.{piece_at, data_at}
use Rattle.place_terms.specs.Naming.{Naming}
use Rattle.place_terms.specs.SectionTable.{keyed_piece}
use Rattle.place_sections.specs.State.{layout_of}
use Rattle.place_sections.specs.declared.state.PlacedOutputs.{PlacedOutputs}
use Rattle.place_sections.specs.declared.state.LayoutCursor.{LayoutCursor}

-- a body in some layout, of which nothing is left to be placed; no end turns on where it starts or on what is left
abbrev pub placed_body : Naming → Layout → LayoutCursor → Body
placed_body n layout h = record {
  layout = layout;
  start = 0;
  rest = [];
  pieces = map (piece_at n) (map keyed_piece h.pieces.items);
  data_commands = map data_at h.data_commands.items;
}

abbrev pub ended_body : Naming → LayoutCursor → PlacedOutputs → Body
ended_body n h d = placed_body n (layout_of n h d) h

-- the numbers of an output section turn on no other part of the layout than `.`
abbrev pub body_alone : Naming → LayoutCursor → Body
body_alone n h = placed_body n (record nothing_placed { dot = h.dot }) h

-- the load end of an output section for which the regions have room
abbrev pub load_end : ℕ → OutputSection → List MemoryRegion → PlacedOutput → Result ℕ Fault
load_end line o regions output =
    and_then (with_room (option_and_then (region_named regions) o.region) output.start output.size output) (λ _.
    and_then (with_room (option_and_then (region_named regions) (load_region o.load)) output.load output.load_size
    output) (λ _.
    address line (output.load + output.load_size)))
