-- Data commands by their output sections.
use Rattle.std.specs.Prelude.{◌≡◌, ℕ, List, [], ◌∷◌, suc, map, flat_map, ◌==◌, if◌then◌else◌}
use Rattle.std.specs.List.{AllZip, enumerate_from}
use Rattle.emit_image.specs.OfLink.{IsImageData}
use Rattle.ldmodel.specs.Layout.{PlacedOutput}
use Rattle.ldmodel.specs.PlacementView.{data_of, numbered}
use Rattle.ldmodel.specs.declared.placed.PlacedData.{PlacedData}

-- the data commands of output sections, the first of which has number k
abbrev pub AreDataFrom : ℕ → List PlacedOutput → List PlacedData → Type 0
AreDataFrom k qs ds = map data_of ds ≡ flat_map numbered (enumerate_from k qs)

-- the data commands of an output section
abbrev pub AreDataOf : PlacedOutput → List PlacedData → Type 0
AreDataOf output ds = AllZip IsImageData output.data_commands ds

-- how many of these data commands, from the first on, stand in the output section of a number
abbrev pub run_length : ℕ → List PlacedData → ℕ
run_length k [] = 0
run_length k (d ∷ ds) = if d.section.0 == k then suc (run_length k ds) else 0
