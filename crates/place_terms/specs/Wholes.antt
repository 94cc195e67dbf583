-- The parts of all output sections, one section after another.
use Rattle.std.specs.Prelude.{ℕ, ◌+◌, List, [], ◌∷◌, ◌++◌, length, map}
use Rattle.ldmodel.specs.Layout.{PlacedData}
use Rattle.ldmodel.specs.PlacementView.{NumberedData}
use Rattle.ldmodel.specs.declared.placed.Placed.{Placed}
use Rattle.place_terms.specs.Keyed.{KeyedPiece, KeyedSection, data_at}
use Rattle.place_terms.specs.declared.sections.DataAt.{DataAt}

abbrev pub placed_in : List KeyedSection → List Placed
placed_in sections = map (λ (x : KeyedSection). x.placed) sections

abbrev pub counts_in : List KeyedSection → List ℕ
counts_in sections = map (λ (x : KeyedSection). length x.pieces) sections

abbrev pub starts_in : List KeyedSection → List ℕ
starts_in [] = []
starts_in (x ∷ xs) = map (λ (p : KeyedPiece). p.start) x.pieces ++ starts_in xs

-- data commands, with the number of their output section
abbrev pub data_in : ℕ → List DataAt → List NumberedData
data_in number commands =
    map (λ (d : PlacedData). record { section = number; start = d.start; bytes = d.bytes }) (map data_at commands)

abbrev pub all_data_in : ℕ → List KeyedSection → List NumberedData
all_data_in number [] = []
all_data_in number (x ∷ xs) = data_in number x.data_commands ++ all_data_in (number + 1) xs
