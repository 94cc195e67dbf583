-- The overlaps of output sections that the code reports, by the numbers of the sections.
use Rattle.std.specs.Prelude.{◌≡◌, ℕ, List, map}
use Rattle.ldscript.specs.statements.Numbering.{OutputSectionAt, output_sections}
use Rattle.ldmodel.specs.FaultCode.{fault_of}
use Rattle.ldmodel.specs.Layout.{PlacedOutput}
use Rattle.ldmodel.specs.PlacementView.{placed_of}
use Rattle.ldmodel.specs.Overlaps.{overlaps}
use Rattle.ldmodel.specs.Project.{Project}
use Rattle.ldmodel.specs.declared.fault.Fault as code
use Rattle.ldmodel.specs.declared.placed.Placed.{Placed}

-- output sections with the names of those of a script, in its order
abbrev pub AreOutputs : Project → List PlacedOutput → Type 0
AreOutputs project s =
    map (λ (output : PlacedOutput). output.name) s
    ≡ map (λ (o : OutputSectionAt). o.section.name) (output_sections project.script)

-- faults are those of output sections that overlap, in each project whose output sections stand so
abbrev pub AreOverlaps : List Placed → List code.Fault → Type 0
AreOverlaps placed faults =
    (project : Project) (number : ℕ → ℕ) (s : List PlacedOutput) → map placed_of s ≡ placed → AreOutputs project s
    → map (fault_of project number) faults ≡ overlaps s
