-- The drawing of a link.
use Rattle.emit.proofs.Common.{All, AllZip, AreAlike, ArePartsOf, Bool, Bor, EndsBy, FilePart, ImageSection}
use Rattle.emit.proofs.Common.{IsDrawingOf, IsImagePart, IsJoined, IsJoinedSection, Layout, List, Patch, Project}
use Rattle.emit.proofs.Common.{SectionRef, [], arith, header_part, image_length, length, nonempty, refl, subst, sym}
use Rattle.emit.proofs.Common.{tail, ℕ, ◌<◌, ◌^◌, ◌∙◌, ◌∷◌, ◌≡◌, ◌≤◌}
use Rattle.emit_image.specs.Drawing.{IsDrawing, drawing_end, end_of_parts, end_of_sections}
use Rattle.emit_image.specs.InMemory.{AreFilled, IsInMemory}
use Rattle.emit_image.specs.declared.section.Drawing.{Drawing}
use Rattle.emit_image.specs.declared.section.ImagePart.{ImagePart}
use Rattle.emit.specs.declared.parts.ImageParts.{ImageParts}

-- the last part of the tail are the section headers
pub last_part : (p : Project) (s : Layout) (a b c e : FilePart) → a ∷ b ∷ c ∷ e ∷ [] ≡ tail p s → e ≡ header_part p s
last_part p s a b c e h = cc

-- a drawing of these parts
pub record IsMade (x : ImageParts) (d : Drawing) : Type 0 where
  pub headers : d.headers.now ≡ x.headers.items
  pub sections : d.sections.now ≡ x.sections.items
  pub tail : AllZip IsImagePart (x.tail.symbols ∷ x.tail.symbol_names ∷ x.tail.header_names ∷ x.tail.headers ∷ [])
      d.tail.now

below_64 : (n : ℕ) → n ≤ 2 ^ 28 → n < 2 ^ 64
below_64 n h = omega (arith, h)

module _ (p : Project) (s : Layout) (stays : SectionRef → Bool) (x : ImageParts) (d : Drawing) (made : IsMade x d)
    (are : ArePartsOf p s stays x) where
  -- the drawing that has each input section
  abbrev pub whole : Drawing
  whole = record d { sections = record { ref_ptr = d.sections.ref_ptr; now = are.drawn.wholes } }

  pub drawing_of : IsDrawingOf p s whole
  drawing_of = record {
    headers = made.headers ∙ are.headers;
    sections = are.drawn.sections;
    tail = subst (λ l. AllZip IsImagePart l d.tail.now) are.tail made.tail;
  }

  pub drawing_joined : IsJoined whole d
  drawing_joined = record {
    headers = refl;
    sections = subst (AllZip IsJoinedSection are.drawn.wholes) (sym made.sections) are.drawn.joined;
    tail = refl;
  }

  pub whole_stands : ((d : Drawing) → IsDrawingOf p s d → All IsInMemory (nonempty s.sections) → AreFilled d
      → image_length p s < 2 ^ 64 → IsDrawing d) → All IsInMemory (nonempty s.sections)
      → image_length p s ≤ 2 ^ 28 → IsDrawing whole
  whole_stands law memory short =
      law whole drawing_of memory are.drawn.filled (below_64 (image_length p s) short)

-- what ends by the image ends by the drawing of these parts
pub ends_in : (p : Project) (s : Layout) (stays : SectionRef → Bool) (x : ImageParts) (headers : Bor (List ℕ))
    (sections : Bor (List ImageSection)) (parts : List ImagePart) (patches : List Patch)
    → ((d : Drawing) → IsDrawingOf p s d → drawing_end d ≡ image_length p s)
    → ((w d : Drawing) → IsJoined w d → AreAlike w d) → headers.now ≡ x.headers.items
    → sections.now ≡ x.sections.items
    → AllZip IsImagePart (x.tail.symbols ∷ x.tail.symbol_names ∷ x.tail.header_names ∷ x.tail.headers ∷ []) parts
    → ArePartsOf p s stays x → All (EndsBy (image_length p s)) patches
    → All (EndsBy (end_of_parts (end_of_sections (length headers.now) sections.now) parts)) patches
ends_in p s stays x headers sections parts patches law like same_headers same_sections same_tail are h =
    let d : Drawing = record {
      headers = headers;
      sections = sections;
      tail = record { ref_ptr = headers.ref_ptr; now = parts };
    } in
    let made : IsMade x d = record { headers = same_headers; sections = same_sections; tail = same_tail } in
    let w : Drawing = whole p s stays x d made are in
    let end = (like w d (drawing_joined p s stays x d made are)).end ∙ law w (drawing_of p s stays x d made are) in
    subst (λ n. All (EndsBy n) patches) (sym end) h
