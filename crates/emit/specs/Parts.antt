-- All that the image of a layout is drawn from.
use Rattle.std.specs.Prelude.{◌≡◌, Bool, [], ◌∷◌}
use Rattle.ldmodel.specs.Image as image
use Rattle.ldmodel.specs.Layout.{Layout}
use Rattle.ldmodel.specs.Project.{Project}
use Rattle.ldmodel.specs.SectionHeaders as headings
use Rattle.ldmodel.specs.declared.sections.SectionRef.{SectionRef}
use Rattle.emit.specs.Output.{AreDrawn}
use Rattle.emit.specs.declared.parts.ImageParts.{ImageParts}

pub record ArePartsOf (project : Project) (layout : Layout) (stays : SectionRef → Bool) (x : ImageParts) : Type 0 where
  pub headers : x.headers.items ≡ image.file_headers project layout
  pub drawn : AreDrawn project layout stays x.sections.items
  pub tail : x.tail.symbols ∷ x.tail.symbol_names ∷ x.tail.header_names ∷ x.tail.headers ∷ []
      ≡ headings.tail project layout
