-- The sites of a link stand in the order of its objects, and in that of its input sections: both have the same ones.
use Rattle.ldmodel_laws.proofs.Common.{AreNamesDistinct, AreNumbered, Bool, Contains, Differ, Each, EachLater, InCommon}
use Rattle.ldmodel_laws.proofs.Common.{InTable, IsFaultless, IsPermutation, IsPlacedOnce, Layout, LinkedSection, List}
use Rattle.ldmodel_laws.proofs.Common.{NamedObject, None, Option, Part, PlacedOutput, PlacedPiece, Project}
use Rattle.ldmodel_laws.proofs.Common.{SectionIndex, Site, Some, [], ap, bytes_eq, bytes_eq-Decides, cond, eq-eqb}
use Rattle.ldmodel_laws.proofs.Common.{eqb-true, false, filter, filter-append, flat_map, is_part, is_same_part}
use Rattle.ldmodel_laws.proofs.Common.{linked_pieces, map, object_named, option_map_or, placed_part, placed_pieces}
use Rattle.ldmodel_laws.proofs.Common.{refl, section_numbered, segments, sites, sites_at, sites_of_section}
use Rattle.ldmodel_laws.proofs.Common.{sites_outside, subst, sym, true, true≢false, ℕ, ◌&&◌, ◌++◌, ◌==◌, ◌∙◌, ◌∷◌, ◌≡◌}
use Rattle.std.proofs.lemmas.List.Concat.{flat_map-append}
use Rattle.std.proofs.lemmas.List.Sorted.{IsPermutation-trans}
use Rattle.std.proofs.lemmas.List.Folds.{flat_map-map}
use Rattle.ldmodel.specs.Stayed.{GoodLink, LinkedPiece, has_stayed, linked_piece, link_pieces, sites_in, stayed}
use Rattle.ldmodel_laws.proofs.Finding.{NotBoth, member_of}
use Rattle.ldmodel_laws.proofs.Goodness.{not_both, of_placement, placed_once}
use Rattle.ldmodel_laws.proofs.Joined.{exchanged, filter_all, filter_joined, found_joined}
use Rattle.ldmodel_laws.proofs.Joined.{joined_none, joined_permuted, joined_same, parted}
use Rattle.ldmodel_laws.proofs.Once.{names_later}
use Rattle.ldmodel_laws.proofs.PieceBytes.{one_name}
use Rattle.ldmodel_laws.proofs.Untouched.{by_object, by_section, sites_by}
use Rattle.ldmodel_laws.proofs.EachOf.{later_imply}
use Rattle.ldmodel_laws.proofs.Members.{same_tests}

-- ---- tests the other way round

names_turned : (a b : List ℕ) → bytes_eq a b ≡ bytes_eq b a
names_turned a b =
    same_tests (bytes_eq a b) (bytes_eq b a)
    (λ e. (bytes_eq-Decides b a).1 (sym ((bytes_eq-Decides a b).0 e)))
    (λ e. (bytes_eq-Decides a b).1 (sym ((bytes_eq-Decides b a).0 e)))

numbers_turned : (a b : ℕ) → (a == b) ≡ (b == a)
numbers_turned a b = same_tests (a == b) (b == a) (λ e. eq-eqb b a (sym (eqb-true a b e)))
    (λ e. eq-eqb a b (sym (eqb-true b a e)))

one_number : (x y : LinkedSection) (k : SectionIndex) → (x.number.0 == y.number.0) ≡ false
    → ((x.number.0 == k.0) && (y.number.0 == k.0)) ≡ false
one_number x y k h = go (x.number.0 == k.0) (y.number.0 == k.0) refl refl
  where
    go : (b c : Bool) → (x.number.0 == k.0) ≡ b → (y.number.0 == k.0) ≡ c → (b && c) ≡ false
    go false c e f = refl
    go true false e f = refl
    go true true e f =
        let same : x.number.0 ≡ y.number.0 = eqb-true (x.number.0) (k.0) e ∙ sym (eqb-true (y.number.0) (k.0) f) in
        absurd (true≢false (sym (eq-eqb (x.number.0) (y.number.0) same) ∙ h))

-- ---- what is picked from each section that stands in the output, by the section and by the part

module _ {Y : Type 0} (pick : NamedObject → LinkedSection → ℕ → List Y) where
  abbrev picked_from : NamedObject → ℕ → Option LinkedSection → List Y
  picked_from o start m = option_map_or (λ z. pick o z start) m []

  abbrev picked : ℕ → Part → Option NamedObject → List Y
  picked start (InTable k) m = option_map_or (λ o. picked_from o start (section_numbered o k)) m []
  picked start (InCommon k) m = []

  -- from a section, if it is this part of this object
  abbrev at_part : List ℕ → Part → ℕ → NamedObject → LinkedSection → List Y
  at_part object part start o z =
      cond (bytes_eq object o.name && is_same_part part (InTable z.number)) (pick o z start) []

  module _ (p : Project) (names : AreNamesDistinct p.objects) (numbers : AreNumbered p) where
    of_section : (start : ℕ) (k : SectionIndex) (o : NamedObject) → Contains p.objects o
        → picked_from o start (section_numbered o k)
        ≡ flat_map (λ (z : LinkedSection). cond (z.number.0 == k.0) (pick o z start) []) o.object.sections
    of_section start k o c =
        found_joined (λ (z : LinkedSection). z.number.0 == k.0) (λ z. pick o z start) o.object.sections
        (later_imply (λ (x y : LinkedSection). (x.number.0 == y.number.0) ≡ false)
        (NotBoth (λ (z : LinkedSection). z.number.0 == k.0)) (λ x y h. one_number x y k h) o.object.sections
        (member_of (λ (n : NamedObject).
        EachLater (λ (x y : LinkedSection). (x.number.0 == y.number.0) ≡ false) n.object.sections) p.objects o numbers
        c))

    of_part : (object : List ℕ) (part : Part) (start : ℕ) → picked start part (object_named p object)
        ≡ flat_map (λ (o : NamedObject). flat_map (at_part object part start o) o.object.sections) p.objects
    of_part object (InCommon k) start = sym (joined_none _ p.objects (none_of_all p.objects))
      where
        no_part : (b : Bool) → (b && false) ≡ false
        no_part true = refl
        no_part false = refl

        none_of : (o : NamedObject) (zs : List LinkedSection)
            → Each (λ (z : LinkedSection). at_part object (InCommon k) start o z ≡ []) zs
        none_of o [] = tt
        none_of o (z ∷ zs) = (
          ap (λ b. cond b (pick o z start) []) (no_part (bytes_eq object o.name)),
          none_of o zs,
        )

        none_of_all : (os : List NamedObject) → Each (λ (o : NamedObject).
            flat_map (at_part object (InCommon k) start o) o.object.sections ≡ []) os
        none_of_all [] = tt
        none_of_all (o ∷ os) = (
          joined_none (at_part object (InCommon k) start o) o.object.sections (none_of o o.object.sections),
          none_of_all os,
        )
    of_part object (InTable k) start =
        found_joined (λ (o : NamedObject). bytes_eq o.name object) (λ o. picked_from o start (section_numbered o k))
        p.objects
        (later_imply (λ (a b : NamedObject). bytes_eq a.name b.name ≡ false)
        (NotBoth (λ (o : NamedObject). bytes_eq o.name object)) (λ a b h. one_name a.name b.name object h) p.objects
        (names_later p.objects names))
        ∙ joined_same _ _ p.objects (λ o c. go o c (bytes_eq o.name object) refl)
      where
        others : (o : NamedObject) → bytes_eq o.name object ≡ false → (zs : List LinkedSection)
            → Each (λ (z : LinkedSection). at_part object (InTable k) start o z ≡ []) zs
        others o e [] = tt
        others o e (z ∷ zs) = (
          ap (λ t. cond (t && (k.0 == z.number.0)) (pick o z start) []) (names_turned object o.name ∙ e),
          others o e zs,
        )

        go : (o : NamedObject) → Contains p.objects o → (b : Bool) → bytes_eq o.name object ≡ b
            → cond b (picked_from o start (section_numbered o k)) []
            ≡ flat_map (at_part object (InTable k) start o) o.object.sections
        go o c true e =
            of_section start k o c ∙ joined_same _ _ o.object.sections (λ z d.
            ap (λ t. cond t (pick o z start) []) (numbers_turned (z.number.0) (k.0))
            ∙ ap (λ t. cond (t && (k.0 == z.number.0)) (pick o z start) [])
            (sym (names_turned object o.name ∙ e)))
        go o c false e =
            sym (joined_none (at_part object (InTable k) start o) o.object.sections (others o e o.object.sections))

    module _ (s : Layout) (once : EachLater (λ (x y : PlacedPiece). Differ x.piece y.piece) (placed_pieces s)) where
      abbrev at_piece : NamedObject → LinkedSection → PlacedPiece → List Y
      at_piece o z w = at_part w.piece.object w.piece.part w.start o z

      abbrev placed_of : NamedObject → LinkedSection → List Y
      placed_of o z = option_map_or (λ (w : PlacedPiece). pick o z w.start)
          (placed_part s o.name (InTable z.number)) []

      of_object : (o : NamedObject) (z : LinkedSection) → placed_of o z
          ≡ flat_map (at_piece o z) (placed_pieces s)
      of_object o z =
          found_joined (is_part o.name (InTable z.number)) (λ w. pick o z w.start) (placed_pieces s)
          (later_imply (λ (x y : PlacedPiece). Differ x.piece y.piece) (NotBoth (is_part o.name (InTable z.number)))
          (not_both o.name (InTable z.number)) (placed_pieces s) once)

      abbrev at_entry : PlacedPiece → List Y
      at_entry w = picked w.start w.piece.part (object_named p w.piece.object)

      by_entry : IsPermutation (flat_map (λ (o : NamedObject). flat_map (placed_of o) o.object.sections) p.objects)
          (flat_map at_entry (placed_pieces s))
      by_entry =
          let named : flat_map (λ (o : NamedObject). flat_map (placed_of o) o.object.sections) p.objects
          ≡ flat_map (λ (o : NamedObject). flat_map (λ z. flat_map (at_piece o z) (placed_pieces s)) o.object.sections)
          p.objects =
          joined_same _ _ p.objects (λ o c. joined_same _ _ o.object.sections (λ z d. of_object o z)) in
          let entries : flat_map (λ w. flat_map (λ (o : NamedObject). flat_map (λ z. at_piece o z w) o.object.sections)
          p.objects) (placed_pieces s) ≡ flat_map at_entry (placed_pieces s) =
          joined_same _ _ (placed_pieces s) (λ w c. sym (of_part w.piece.object w.piece.part w.start)) in
          subst (λ l. IsPermutation l (flat_map at_entry (placed_pieces s))) (sym named)
          (subst (IsPermutation (flat_map (λ (o : NamedObject).
          flat_map (λ z. flat_map (at_piece o z) (placed_pieces s)) o.object.sections) p.objects)) entries
          (IsPermutation-trans _ (flat_map (λ (o : NamedObject).
          flat_map (λ w. flat_map (λ z. at_piece o z w) o.object.sections) (placed_pieces s)) p.objects) _
          (joined_permuted _ _ p.objects (λ o. exchanged (at_piece o) o.object.sections (placed_pieces s)))
          (exchanged (λ (o : NamedObject) w. flat_map (λ z. at_piece o z w) o.object.sections) p.objects
          (placed_pieces s))))

-- ---- the sites that a test keeps

module _ (test : Site → Bool) (p : Project) where
  abbrev kept_at : NamedObject → LinkedSection → ℕ → List Site
  kept_at o z start = filter test (sites_at o z start)

  -- of a part of an object
  kept_of : (start : ℕ) (part : Part) (m : Option NamedObject) → picked kept_at start part m
      ≡ filter test (by_object start part m)
  kept_of start (InCommon k) m = refl
  kept_of start (InTable k) None = refl
  kept_of start (InTable k) (Some o) = go (section_numbered o k)
    where
      go : (n : Option LinkedSection) → picked_from kept_at o start n ≡ filter test (by_section o start n)
      go None = refl
      go (Some z) = refl

  -- and by its place
  kept_placed : (o : NamedObject) (z : LinkedSection) (m : Option PlacedPiece)
      → option_map_or (λ (w : PlacedPiece). kept_at o z w.start) m []
      ≡ filter test (option_map_or (λ (w : PlacedPiece). sites_at o z w.start) m [])
  kept_placed o z None = refl
  kept_placed o z (Some w) = refl

  module _ (s : Layout) where
    kept_sites : flat_map (λ (o : NamedObject). flat_map (λ z.
        option_map_or (λ (w : PlacedPiece). kept_at o z w.start) (placed_part s o.name (InTable z.number)) [])
        o.object.sections) p.objects ≡ filter test (sites p s)
    unfolding sites
    kept_sites =
        joined_same _ _ p.objects (λ o c.
        joined_same _ _ o.object.sections (λ z d. kept_placed o z (placed_part s o.name (InTable z.number)))
        ∙ sym (filter_joined test (sites_of_section s o) o.object.sections))
        ∙ sym (filter_joined test (λ (o : NamedObject).
        flat_map (sites_of_section s o) o.object.sections) p.objects)

    abbrev kept_entry : PlacedPiece → List Site
    kept_entry w = picked kept_at w.start w.piece.part (object_named p w.piece.object)

    kept_linked : flat_map kept_entry (placed_pieces s) ≡ filter test (flat_map (sites_in p) (linked_pieces p s))
    unfolding linked_pieces
    kept_linked = go s.sections
      where
        linked_in : PlacedOutput → List LinkedPiece
        linked_in q = map (linked_piece p (segments s.sections) q) q.pieces

        of_one : (q : PlacedOutput) → flat_map kept_entry q.pieces
            ≡ filter test (flat_map (sites_in p) (linked_in q))
        of_one q =
            joined_same _ _ q.pieces (λ w c.
            kept_of w.start w.piece.part (object_named p w.piece.object)
            ∙ ap (filter test) (sym (sites_by p (linked_piece p (segments s.sections) q w))))
            ∙ sym (flat_map-map (λ x. filter test (sites_in p x)) (linked_piece p (segments s.sections) q) q.pieces)
            ∙ sym (filter_joined test (sites_in p) (linked_in q))

        go : (qs : List PlacedOutput) → flat_map kept_entry (flat_map (λ (q : PlacedOutput). q.pieces) qs)
            ≡ filter test (flat_map (sites_in p) (flat_map linked_in qs))
        go [] = refl
        go (q ∷ qs) =
            flat_map-append kept_entry q.pieces (flat_map (λ (r : PlacedOutput). r.pieces) qs)
            ∙ ap (λ l. l ++ flat_map kept_entry (flat_map (λ (r : PlacedOutput). r.pieces) qs)) (of_one q)
            ∙ ap (λ l. filter test (flat_map (sites_in p) (linked_in q)) ++ l) (go qs)
            ∙ sym (filter-append test (flat_map (sites_in p) (linked_in q))
            (flat_map (sites_in p) (flat_map linked_in qs)))
            ∙ ap (filter test) (sym (flat_map-append (sites_in p) (linked_in q) (flat_map linked_in qs)))

    kept_by_piece : AreNamesDistinct p.objects → AreNumbered p
        → EachLater (λ (x y : PlacedPiece). Differ x.piece y.piece) (placed_pieces s)
        → IsPermutation (filter test (sites p s)) (filter test (flat_map (sites_in p) (linked_pieces p s)))
    kept_by_piece names numbers once =
        subst (λ l. IsPermutation l (filter test (flat_map (sites_in p) (linked_pieces p s)))) kept_sites
        (subst (IsPermutation (flat_map (λ (o : NamedObject). flat_map (λ z.
        option_map_or (λ (w : PlacedPiece). kept_at o z w.start) (placed_part s o.name (InTable z.number)) [])
        o.object.sections) p.objects)) kept_linked (by_entry kept_at p names numbers s once))

-- ---- of a layout

pub kept_of_layout : (p : Project) (s : Layout) (test : Site → Bool) → IsPlacedOnce p s
    → IsPermutation (filter test (sites p s)) (filter test (flat_map (sites_in p) (linked_pieces p s)))
kept_of_layout p s test h =
    kept_by_piece test p s h.names h.numbers (placed_once p s h.placed h.names h.numbers)

pub of_layout : (p : Project) (s : Layout) → IsPlacedOnce p s
    → IsPermutation (sites p s) (flat_map (sites_in p) (linked_pieces p s))
of_layout p s h =
    subst (λ l. IsPermutation l (flat_map (sites_in p) (linked_pieces p s))) (filter_all (sites p s))
    (subst (IsPermutation (filter (λ t. true) (sites p s))) (filter_all (flat_map (sites_in p) (linked_pieces p s)))
    (kept_of_layout p s (λ t. true) h))

pub once_if_faultless : (l : GoodLink) → IsFaultless l → IsPlacedOnce l.project l.layout
once_if_faultless l h = record {
  placed = of_placement l.project l.layout h.layout;
  names = h.names;
  numbers = h.numbers;
}

-- the sites in input sections that stayed, and the others
pub parted_sites : (old new : GoodLink)
    → IsPermutation (flat_map (sites_in new.project) (link_pieces new))
    (flat_map (sites_in new.project) (stayed old new) ++ sites_outside old new)
unfolding stayed
parted_sites old new = parted (sites_in new.project) (has_stayed old) (link_pieces new)
