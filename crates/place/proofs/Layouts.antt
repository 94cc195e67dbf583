-- From a placement to the layout of a project.
use Rattle.place.proofs.Common.{AllZip, AreAllSegments, AreNamed, AreSegments, IsOffset, Layout, List, Ok, Placed}
use Rattle.place.proofs.Common.{Project, [], map, placed_of, provided, refl, rows, segments, subst, sym, ℕ, ◌∙◌, ◌≡◌}
use Rattle.ldmodel.specs.Link.{layout, of_length}
use Rattle.ldmodel.specs.Overlaps.{overlaps}
use Rattle.ldmodel.specs.Placement.{placement}
use Rattle.ldmodel.specs.Rows.{Piece}
use Rattle.ldmodel.specs.SectionHeaders.{image_length}
use Rattle.ldscript.specs.statements.declared.statement.Statement.{Statement}
use Rattle.place_sections.specs.Outcomes as outcomes
use Rattle.place_sections.specs.Places.{IsPlacement, Places}
use Rattle.place_sections.specs.declared.fault.PlaceFault.{PlaceFault}
use Rattle.place.specs.LinkLayout.{HasLayout, HasPlaces}
use Rattle.place.specs.declared.link_layout.LinkLayout.{LinkLayout}

-- why a script with these rows and PROVIDEs has no layout is why the project has none whose they are
pub why_of_project : (p : Project) (script : List Statement) (pieces : List (List Piece)) (names : List (List ℕ))
    (f : PlaceFault) → script ≡ p.script → pieces ≡ rows p → names ≡ provided p
    → outcomes.IsWhy script pieces names f → outcomes.IsWhy p.script (rows p) (provided p) f
why_of_project p script pieces names f a b c h =
    subst (λ (ps : List (List ℕ)). outcomes.IsWhy p.script (rows p) ps f) c
    (subst (λ (xs : List (List Piece)). outcomes.IsWhy p.script xs names f) b
    (subst (λ (ss : List Statement). outcomes.IsWhy ss pieces names f) a h))

-- places of a script with these rows and PROVIDEs are places of the project whose they are
pub places_of_project : (p : Project) (script : List Statement) (pieces : List (List Piece)) (names : List (List ℕ))
    (l : Places) → script ≡ p.script → pieces ≡ rows p → names ≡ provided p → outcomes.IsGood script pieces names l
    → IsPlacement script pieces names l → HasPlaces p l
places_of_project p script pieces names l a b c good kept =
    let there : outcomes.IsGood p.script (rows p) (provided p) l =
    subst (λ (ps : List (List ℕ)). outcomes.IsGood p.script (rows p) ps l) c
    (subst (λ (xs : List (List Piece)). outcomes.IsGood p.script xs names l) b
    (subst (λ (ss : List Statement). outcomes.IsGood ss pieces names l) a good)) in
    record {
      layout = there.layout;
      placed = there.placed;
      apart = there.apart;
      places = there.places;
      kept = subst (λ (ps : List (List ℕ)). IsPlacement p.script (rows p) ps l) c
          (subst (λ (xs : List (List Piece)). IsPlacement p.script xs names l) b
          (subst (λ (ss : List Statement). IsPlacement ss pieces names l) a kept));
    }

layout_is : (p : Project) (s : Layout) → placement p.script (rows p) (provided p) ≡ Ok s → overlaps s.sections ≡ []
    → layout p ≡ of_length (image_length p s) s
unfolding layout
layout_is p s a b = rw (a, b) refl

-- places and all segments that are made of them
pub has_layout : (p : Project) (l : LinkLayout) (h : HasPlaces p l.placement) (placed : List Placed)
    → placed ≡ l.placement.sections → AreAllSegments placed l.segments.items → AreNamed h.layout.sections
    → (map placed_of h.layout.sections ≡ placed
    → AreSegments h.layout.sections (segments h.layout.sections) l.segments.items
    → AllZip (IsOffset h.layout) h.layout.sections l.offsets.items)
    → HasLayout p l
has_layout p l h placed e made named begun =
    let same : map placed_of h.layout.sections ≡ placed = sym h.places.sections ∙ sym e in
    let segments = made h.layout.sections same in record {
      layout = h.layout;
      is = record {
        placed = h.placed;
        apart = h.apart;
        layout = layout_is p h.layout h.placed h.apart;
        places = h.places;
        kept = h.kept;
        segments = segments;
        offsets = begun same segments;
        named = named;
      };
    }
