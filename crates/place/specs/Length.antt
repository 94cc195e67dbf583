-- The length of the image, of the sizes of its parts.
use Rattle.std.specs.Prelude.{◌≡◌, ℕ, List, length}
use Rattle.ldmodel.specs.Layout.{Layout}
use Rattle.ldmodel.specs.PlacementView.{AreSegments}
use Rattle.ldmodel.specs.Project.{Project}
use Rattle.ldmodel.specs.SectionHeaders.{header_name_table, image_length}
use Rattle.ldmodel.specs.Segments.{segments}
use Rattle.ldmodel.specs.Tail.{symbol_name_table, table_symbols}
use Rattle.ldmodel.specs.declared.segment.Segment.{Segment}
use Rattle.place.specs.declared.length.TailSizes.{TailSizes}

-- what the caller counted is the tail of a link
pub record AreTailSizes (project : Project) (layout : Layout) (tail : TailSizes) : Type 0 where
  pub symbols : tail.symbols ≡ length (table_symbols project layout)
  pub symbol_names : tail.symbol_names ≡ length (symbol_name_table project layout)
  pub header_names : tail.header_names ≡ length (header_name_table layout)
  pub sections : tail.sections ≡ length layout.sections

-- it is the length of the image of each link that has these segments and this tail
abbrev pub IsImageLength : List Segment → TailSizes → ℕ → Type 0
IsImageLength xs tail n =
    (project : Project) (layout : Layout) → AreSegments layout.sections (segments layout.sections) xs
    → AreTailSizes project layout tail
    → n ≡ image_length project layout
