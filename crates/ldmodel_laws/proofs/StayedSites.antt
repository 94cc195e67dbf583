-- Which sites lie in input sections that stayed, by the object and the number of their section; and where an index
-- finds those that are retargeted.
use Rattle.ldmodel_laws.proofs.Common.{Bool, Contains, EachLater, HasField, HasSameValue, InCommon, InTable, IsGood}
use Rattle.ldmodel_laws.proofs.Common.{IsPermutation, IsPlacedOnce, Layout, LinkedSection, List, NamedObject}
use Rattle.ldmodel_laws.proofs.Common.{NamedSymbol, None, NotDefined, Ok, Option, Part, PlacedOutput, PlacedPiece}
use Rattle.ldmodel_laws.proofs.Common.{Project, Relocation, Site, Some, Target, [], and_from, ap, bytes_eq}
use Rattle.ldmodel_laws.proofs.Common.{bytes_eq-Decides, false, filter, flat_map, is_evaluated, is_same_part}
use Rattle.ldmodel_laws.proofs.Common.{linked_pieces, map, map-append, not, object_named, option_map_or, placed_pieces}
use Rattle.ldmodel_laws.proofs.Common.{referenced_value, refl, section_numbered, segments, site_field, site_field_with}
use Rattle.ldmodel_laws.proofs.Common.{site_symbol, site_value, sites, sites_outside, subst, sym, target_of, true}
use Rattle.ldmodel_laws.proofs.Common.{true≢false, ℕ, ◌&&◌, ◌++◌, ◌↔◌, ◌∙◌, ◌∷◌, ◌≡◌}
use Rattle.std.proofs.lemmas.List.Sorted.{Contains-permutation, IsPermutation-sym}
use Rattle.ldmodel.specs.Stayed.{GoodLink, LinkedPiece, has_stayed, has_other_value, linked_piece, link_pieces}
use Rattle.ldmodel.specs.Stayed.{retargeted, sites_in, stayed}
use Rattle.ldmodel_laws.specs.StayedSites.{HasSites, IsFound, has_part_stayed, is_linked_part, lies_in_stayed}
use Rattle.ldmodel_laws.proofs.Finding.{ComesOf, flat_map_in, in_flat_map, in_map}
use Rattle.ldmodel_laws.proofs.Goodness.{placed_once, section_found}
use Rattle.ldmodel_laws.proofs.InImage.{stayed_both}
use Rattle.ldmodel_laws.proofs.Joined.{filter_both, filter_parts}
use Rattle.ldmodel_laws.proofs.Members.{any_in, in_any, in_filter, none_in_nil}
use Rattle.ldmodel_laws.proofs.Once.{later_map}
use Rattle.ldmodel_laws.proofs.OnceInRows.{is_one, turned, unique}
use Rattle.ldmodel_laws.proofs.SitesByPiece.{kept_of_layout, of_layout}
use Rattle.ldmodel_laws.proofs.Unmoved.{by_value, same_filters}
use Rattle.ldmodel_laws.proofs.Untouched.{by_object, by_section, in_old, object_found, other_target, sites_by}
use Rattle.ldmodel_laws.proofs.EachOf.{later_of_map}
use Rattle.ldmodel_laws.proofs.SameParts.{own_part}

-- ---- input sections in the output are different ones

abbrev linked_key : LinkedPiece → List ℕ × Part
linked_key x = (x.object, x.part)

abbrev placed_key : PlacedPiece → List ℕ × Part
placed_key w = (w.piece.object, w.piece.part)

abbrev AreOther : List ℕ × Part → List ℕ × Part → Type 0
AreOther a b = is_one a.0 b.0 a.1 b.1 ≡ false

keys_same : (p : Project) (s : Layout) → map linked_key (linked_pieces p s) ≡ map placed_key (placed_pieces s)
unfolding linked_pieces
keys_same p s = go s.sections
  where
    linked_in : PlacedOutput → List LinkedPiece
    linked_in q = map (linked_piece p (segments s.sections) q) q.pieces

    of_one : (q : PlacedOutput) (ws : List PlacedPiece)
        → map linked_key (map (linked_piece p (segments s.sections) q) ws) ≡ map placed_key ws
    of_one q [] = refl
    of_one q (w ∷ ws) = ap (λ l. placed_key w ∷ l) (of_one q ws)

    go : (qs : List PlacedOutput) → map linked_key (flat_map linked_in qs)
        ≡ map placed_key (flat_map (λ (q : PlacedOutput). q.pieces) qs)
    go [] = refl
    go (q ∷ qs) =
        map-append linked_key (linked_in q) (flat_map linked_in qs)
        ∙ ap (λ l. l ++ map linked_key (flat_map linked_in qs)) (of_one q q.pieces)
        ∙ ap (λ l. map placed_key q.pieces ++ l) (go qs)
        ∙ sym (map-append placed_key q.pieces (flat_map (λ (r : PlacedOutput). r.pieces) qs))

linked_once : (p : Project) (s : Layout) → IsPlacedOnce p s
    → EachLater (λ (x y : LinkedPiece). AreOther (linked_key x) (linked_key y)) (linked_pieces p s)
linked_once p s h =
    later_of_map AreOther linked_key (linked_pieces p s)
    (subst (EachLater AreOther) (sym (keys_same p s))
    (later_map placed_key AreOther (placed_pieces s) (placed_once p s h.placed h.names h.numbers)))

-- ---- the section of a site

record IsOf (object : List ℕ) (part : Part) (t : Site) : Type 0 where
  pub name : t.object.name ≡ object
  pub part_is : InTable t.section.number ≡ part

is_of_part : (p : Project) (start : ℕ) (object : List ℕ) (part : Part) (m : Option NamedObject)
    → object_named p object ≡ m → (t : Site) → Contains (by_object start part m) t → IsOf object part t
is_of_part p start object (InCommon k) m e t c = absurd (none_in_nil t c)
is_of_part p start object (InTable k) None e t c = absurd (none_in_nil t c)
is_of_part p start object (InTable k) (Some o) e t c = go (section_numbered o k) refl c
  where
    go : (n : Option LinkedSection) → section_numbered o k ≡ n → Contains (by_section o start n) t
        → IsOf object (InTable k) t
    go None f d = absurd (none_in_nil t d)
    go (Some z) f d =
        let site : Relocation → Site = λ r. record { object = o; section = z; start = start; relocation = r } in
        let comes = in_map site (filter (λ (r : Relocation). is_evaluated r.kind) z.relocations) t d in
        record {
          name = ap (λ (u : Site). u.object.name) (sym comes.gives) ∙ (object_found p object o e).0;
          part_is =
              ap (λ (u : Site). InTable u.section.number) (sym comes.gives) ∙ ap InTable (section_found o k z f).0;
        }

is_of : (p : Project) (x : LinkedPiece) (t : Site) → Contains (sites_in p x) t → IsOf x.object x.part t
is_of p x t c = is_of_part p x.start x.object x.part (object_named p x.object) refl t
    (subst (λ ts. Contains ts t) (sites_by p x) c)

-- ---- which sites lie in input sections that stayed

module _ (old new : GoodLink) (h : IsPlacedOnce new.project new.layout) where
  pub part_stays : (x : LinkedPiece) → Contains (link_pieces new) x
      → has_part_stayed old new x.object x.part ≡ has_stayed old x
  part_stays x c = go (has_stayed old x) (has_part_stayed old new x.object x.part) refl refl
    where
      itself : has_stayed old x ≡ true → has_part_stayed old new x.object x.part ≡ true
      itself e =
          any_in (is_linked_part x.object x.part) (stayed old new) x ((stayed_both old new x).1 (c, e))
          (and_from (bytes_eq x.object x.object) (is_same_part x.part x.part)
          ((bytes_eq-Decides x.object x.object).1 refl) (own_part x.part))

      only : has_part_stayed old new x.object x.part ≡ true → has_stayed old x ≡ true
      only e =
          let found = in_any (is_linked_part x.object x.part) (stayed old new) e in
          let both = (stayed_both old new found.member).0 found.among in
          let one : found.member ≡ x =
          unique (λ (y z : LinkedPiece). AreOther (linked_key y) (linked_key z)) (link_pieces new) found.member x
          (linked_once new.project new.layout h) both.0 c (λ k. true≢false (sym found.passes ∙ k))
          (λ k. true≢false (sym found.passes ∙ turned x.object found.member.object x.part found.member.part k)) in
          ap (has_stayed old) (sym one) ∙ both.1

      go : (a b : Bool) → has_stayed old x ≡ a → has_part_stayed old new x.object x.part ≡ b
          → has_part_stayed old new x.object x.part ≡ has_stayed old x
      go true b e f = itself e ∙ sym e
      go false true e f = absurd (true≢false (sym (only f) ∙ e))
      go false false e f = f ∙ sym e

  site_stays : (x : LinkedPiece) (t : Site) → Contains (link_pieces new) x → Contains (sites_in new.project x) t
      → lies_in_stayed old new t ≡ has_stayed old x
  site_stays x t c d =
      let k = is_of new.project x t d in
      ap (λ name. has_part_stayed old new name (InTable t.section.number)) k.name
      ∙ ap (has_part_stayed old new x.object) k.part_is ∙ part_stays x c

  pub site_in : (t : Site) → Contains (sites new.project new.layout) t → lies_in_stayed old new t ≡ true
      → (x : LinkedPiece) × Contains (stayed old new) x × Contains (sites_in new.project x) t
  site_in t c e =
      let among = Contains-permutation (sites new.project new.layout)
      (flat_map (sites_in new.project) (link_pieces new)) t (of_layout new.project new.layout h) c in
      let k = in_flat_map (sites_in new.project) (link_pieces new) t among in
      let stays : has_stayed old k.origin ≡ true = sym (site_stays k.origin t k.among k.gives) ∙ e in
      (k.origin, (stayed_both old new k.origin).1 (k.among, stays), k.gives)

  pub retargeted_in_order : IsPermutation
      (filter (λ t. lies_in_stayed old new t && has_other_value old new t) (sites new.project new.layout))
      (retargeted old new)
  unfolding retargeted stayed
  retargeted_in_order =
      let all = flat_map (sites_in new.project) (link_pieces new) in
      subst (IsPermutation
      (filter (λ t. lies_in_stayed old new t && has_other_value old new t) (sites new.project new.layout)))
      (filter_both (lies_in_stayed old new) (has_other_value old new) all
      ∙ ap (filter (has_other_value old new))
      (filter_parts (lies_in_stayed old new) (has_stayed old) (sites_in new.project)
      (link_pieces new) site_stays))
      (kept_of_layout new.project new.layout (λ t. lies_in_stayed old new t && has_other_value old new t) h)

  -- by a test of the values
  pub valued_in_order : IsGood old → IsGood new → (test : Site → Bool)
      → ((t : Site) → Contains (sites new.project new.layout) t → lies_in_stayed old new t ≡ true
      → (test t ≡ false) ↔ HasSameValue old new t)
      → IsPermutation (filter (λ t. lies_in_stayed old new t && test t) (sites new.project new.layout))
      (retargeted old new)
  valued_in_order g k test decides =
      subst (λ l. IsPermutation l (retargeted old new))
      (same_filters (λ t. lies_in_stayed old new t && has_other_value old new t) (λ t. lies_in_stayed old new t
      && test t)
      (sites new.project new.layout) (λ t c. go t c (lies_in_stayed old new t) refl)) retargeted_in_order
    where
      go : (t : Site) → Contains (sites new.project new.layout) t → (b : Bool) → lies_in_stayed old new t ≡ b
          → ((b && has_other_value old new t) ≡ false) ↔ ((b && test t) ≡ false)
      go t c false e = (λ f. refl, λ f. refl)
      go t c true e =
          let x = site_in t c e in
          let moved = by_value old new g k x.0 t x.1 x.2 in
          let tested = decides t c e in
          (λ f. tested.1 (moved.1 f), λ f. moved.0 (tested.0 f))

  pub outside_in_order : IsPermutation (filter (λ t. not (lies_in_stayed old new t)) (sites new.project new.layout))
      (sites_outside old new)
  outside_in_order =
      subst (IsPermutation (filter (λ t. not (lies_in_stayed old new t)) (sites new.project new.layout)))
      (filter_parts (λ t. not (lies_in_stayed old new t)) (λ x. not (has_stayed old x)) (sites_in new.project)
      (link_pieces new) (λ x t c d. ap not (site_stays x t c d)))
      (kept_of_layout new.project new.layout (λ t. not (lies_in_stayed old new t)) h)

-- ---- an index

-- a site with a field names a symbol
has_symbol : (l : GoodLink) (t : Site) → HasField l t → site_symbol t ≡ None → ⊥
unfolding site_field
has_symbol l t field e =
    let value : site_value l.project l.layout t ≡ NotDefined =
    ap (λ m. option_map_or (referenced_value l.project l.layout t.object) m NotDefined) e in
    let same : site_field_with t NotDefined ≡ Ok field.0 = ap (site_field_with t) (sym value) ∙ field.1 in
    let none : ⊥ = cc in none

pub retargeted_in_index : (old new : GoodLink) → IsGood old → IsGood new → IsPlacedOnce new.project new.layout
    → (index : Target → List Site) → HasSites new.project new.layout index
    → (t : Site) → Contains (retargeted old new) t → IsFound old new index t
unfolding retargeted
retargeted_in_index old new g h once index has t c = go (site_symbol t) refl
  where
    comes : ComesOf (sites_in new.project) (stayed old new) t
    comes = in_flat_map (sites_in new.project) (stayed old new) t
        (in_filter (has_other_value old new) (flat_map (sites_in new.project) (stayed old new)) t c).0

    field : HasField old t
    field = in_old old new g h.read comes.origin comes.among t comes.gives

    among : Contains (sites new.project new.layout) t
    among =
        Contains-permutation (flat_map (sites_in new.project) (link_pieces new)) (sites new.project new.layout) t
        (IsPermutation-sym (sites new.project new.layout) (flat_map (sites_in new.project) (link_pieces new))
        (of_layout new.project new.layout once))
        (flat_map_in (sites_in new.project) (link_pieces new) comes.origin t
        ((stayed_both old new comes.origin).0 comes.among).0 comes.gives)

    go : (m : Option NamedSymbol) → site_symbol t ≡ m → IsFound old new index t
    go None e = absurd (has_symbol old t field e)
    go (Some a) e = record {
      target = target_of t.object a;
      among = has t a among e;
      moved = other_target old new g h t a c e;
    }
