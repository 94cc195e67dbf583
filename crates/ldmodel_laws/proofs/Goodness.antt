-- A link without faults is good: its layout is spread, and each of its sites has a field.
use Rattle.ldmodel_laws.proofs.Common.{AreNamesDistinct, AreNumbered, Bool, Contains, Differ, Each, EachLater, Err}
use Rattle.ldmodel_laws.proofs.Common.{Fault, HasField, ImageTooLong, InCommon, InTable, IsFaultless, IsGood, Layout}
use Rattle.ldmodel_laws.proofs.Common.{LinkedSection, List, NamedObject, None, Ok, Option, Part, PlacedOutput}
use Rattle.ldmodel_laws.proofs.Common.{PlacedPiece, Project, Result, SectionIndex, Site, Some, [], and_from, and_parts}
use Rattle.ldmodel_laws.proofs.Common.{ap, bytes_eq, bytes_eq-Decides, cond, entries_in, entry_point, eqb-true, false}
use Rattle.ldmodel_laws.proofs.Common.{filter_map, find, flat_map, image_length, is_part, is_same_part, layout}
use Rattle.ldmodel_laws.proofs.Common.{linked_pieces, map, map-append, nat_lt, object_named, option_map_or, overlaps}
use Rattle.ldmodel_laws.proofs.Common.{placed_part, placed_pieces, refl, relocation_faults, rows, section_numbered}
use Rattle.ldmodel_laws.proofs.Common.{segments, site_field, sites, sites_at, sites_of_section, subst, sym, true}
use Rattle.ldmodel_laws.proofs.Common.{true≢false, ℕ, ◌&&◌, ◌++◌, ◌==◌, ◌^◌, ◌∙◌, ◌∷◌, ◌≡◌}
use Rattle.std.specs.Result.{result_err}
use Rattle.ldmodel.specs.Link.{laid_out, of_length, without_overlaps}
use Rattle.ldmodel.specs.Names.{provided}
use Rattle.ldmodel.specs.Placement.{placement}
use Rattle.ldmodel.specs.Relocations.{entry_fault}
use Rattle.ldmodel.specs.Stayed.{GoodLink, LinkedPiece, linked_piece, link_pieces, sites_in}
use Rattle.ldmodel_laws.proofs.Finding.{NotBoth, each_member, find_only, flat_map_in, in_flat_map, in_map, none_in}
use Rattle.ldmodel_laws.proofs.Members.{here, later, none_in_nil}
use Rattle.ldmodel_laws.proofs.OnceInRows.{is_one, once_in_rows}
use Rattle.ldmodel_laws.proofs.OwnRows.{placed_are_rows}
use Rattle.ldmodel_laws.proofs.Spreading.{script_spread}
use Rattle.ldmodel_laws.proofs.Untouched.{by_object, by_section, object_found, sites_by}
use Rattle.ldmodel_laws.proofs.EachOf.{later_of_map, later_imply}
use Rattle.ldmodel_laws.proofs.RowParts.{entry}
use Rattle.ldmodel_laws.proofs.SameParts.{same_part, own_part}

-- ---- the placement of a layout

long_enough : (p : Project) (t s : Layout) → of_length (image_length p t) t ≡ Ok s → t ≡ s
long_enough p t s e = go (nat_lt (2 ^ 28) (image_length p t)) e
  where
    go : (b : Bool) → cond b (Err (ImageTooLong (image_length p t) ∷ [])) (Ok t) ≡ Ok s → t ≡ s
    go true k = absurd (let none : ⊥ = cc in none)
    go false k = cc

no_overlap : (p : Project) (t s : Layout) (fs : List Fault) → without_overlaps p t fs ≡ Ok s → t ≡ s
no_overlap p t s [] e = long_enough p t s e
no_overlap p t s (f ∷ fs) e = absurd (let none : ⊥ = cc in none)

pub of_placement : (p : Project) (s : Layout) → layout p ≡ Ok s → placement p.script (rows p) (provided p) ≡ Ok s
unfolding layout
of_placement p s e = go (placement p.script (rows p) (provided p)) refl e
  where
    go : (r : Result Layout Fault) → placement p.script (rows p) (provided p) ≡ r → laid_out p r ≡ Ok s
        → placement p.script (rows p) (provided p) ≡ Ok s
    go (Ok t) a b = a ∙ ap Ok (no_overlap p t s (overlaps t.sections) b)
    go (Err f) a b = absurd (let none : ⊥ = cc in none)

-- ---- where a part of an object is placed

abbrev pieces_of : PlacedOutput → List PlacedPiece
pieces_of q = q.pieces

entries_joined : (qs : List PlacedOutput) → map entry (flat_map pieces_of qs) ≡ flat_map (λ r. r) (map entries_in qs)
entries_joined [] = refl
entries_joined (q ∷ qs) = map-append entry q.pieces (flat_map pieces_of qs)
    ∙ ap (λ l. map entry q.pieces ++ l) (entries_joined qs)

-- a test of parts is passed by one of two entries that differ
pub not_both : (object : List ℕ) (part : Part) (x y : PlacedPiece) → Differ x.piece y.piece
    → (is_part object part x && is_part object part y) ≡ false
not_both object part x y h = go (is_part object part x) (is_part object part y) refl refl
  where
    go : (a b : Bool) → is_part object part x ≡ a → is_part object part y ≡ b → (a && b) ≡ false
    go false b e f = refl
    go true false e f = refl
    go true true e f =
        let first = and_parts (bytes_eq x.piece.object object) (is_same_part x.piece.part part) e in
        let second = and_parts (bytes_eq y.piece.object object) (is_same_part y.piece.part part) f in
        let names : x.piece.object ≡ y.piece.object = (bytes_eq-Decides x.piece.object object).0 first.0
        ∙ sym ((bytes_eq-Decides y.piece.object object).0 second.0) in
        let parts : x.piece.part ≡ y.piece.part = same_part x.piece.part part first.1
        ∙ sym (same_part y.piece.part part second.1) in
        let one : is_one x.piece.object y.piece.object x.piece.part y.piece.part ≡ true =
        and_from (bytes_eq x.piece.object y.piece.object) (is_same_part x.piece.part y.piece.part)
        ((bytes_eq-Decides x.piece.object y.piece.object).1 names) (ap (λ m. is_same_part m y.piece.part) parts
        ∙ own_part y.piece.part) in
        absurd (true≢false (sym one ∙ h))

-- no two input sections in the output are one
pub placed_once : (p : Project) (s : Layout) → placement p.script (rows p) (provided p) ≡ Ok s
    → AreNamesDistinct p.objects → AreNumbered p
    → EachLater (λ (x y : PlacedPiece). Differ x.piece y.piece) (placed_pieces s)
placed_once p s placed names numbers =
    later_of_map Differ entry (placed_pieces s)
    (subst (EachLater Differ)
    (sym (entries_joined s.sections ∙ ap (flat_map (λ r. r)) (placed_are_rows p (provided p) s placed)))
    (once_in_rows p names numbers))

abbrev index : ℕ → SectionIndex
index n = record { 0 = n }

pub section_found : (o : NamedObject) (k : SectionIndex) (z : LinkedSection) → section_numbered o k ≡ Some z
    → (z.number ≡ k) × Contains o.object.sections z
section_found o k z e = go o.object.sections e
  where
    go : (zs : List LinkedSection) → find (λ (x : LinkedSection). x.number.0 == k.0) zs ≡ Some z → (z.number ≡ k)
        × Contains zs z
    go [] f = absurd (let none : ⊥ = cc in none)
    go (y ∷ ys) f = on (y.number.0 == k.0) refl f (go ys)
      where
        on : (b : Bool) → (y.number.0 == k.0) ≡ b
            → cond b (Some y) (find (λ (x : LinkedSection). x.number.0 == k.0) ys) ≡ Some z
            → (find (λ (x : LinkedSection). x.number.0 == k.0) ys ≡ Some z → (z.number ≡ k) × Contains ys z)
            → (z.number ≡ k) × Contains (y ∷ ys) z
        on true g m rest = let is : y ≡ z = cc in (
          ap (λ (x : LinkedSection). x.number) (sym is)
              ∙ ap index (eqb-true (y.number.0) (k.0) g),
          subst (λ x. Contains (y ∷ ys) x) is (here y ys),
        )
        on false g m rest = let l = rest m in (l.0, later y ys z l.1)

no_error : (r : Result (List ℕ) Fault) → result_err r ≡ None → (f : List ℕ) × (r ≡ Ok f)
no_error (Ok f) e = (f, refl)
no_error (Err x) e = absurd (let none : ⊥ = cc in none)

last_empty : {X : Type 0} (xs ys : List X) → xs ++ ys ≡ [] → ys ≡ []
last_empty [] ys e = e
last_empty (x ∷ xs) ys e = absurd (let none : ⊥ = cc in none)

module _ (l : GoodLink) (h : IsFaultless l) where
  abbrev p : Project
  p = l.project

  abbrev s : Layout
  s = l.layout

  placed : placement p.script (rows p) (provided p) ≡ Ok s
  placed = of_placement p s h.layout

  differ : EachLater (λ (x y : PlacedPiece). Differ x.piece y.piece) (placed_pieces s)
  differ = placed_once p s placed h.names h.numbers

  part_found : (w : PlacedPiece) → Contains (placed_pieces s) w → placed_part s w.piece.object w.piece.part ≡ Some w
  part_found w c =
      find_only (is_part w.piece.object w.piece.part) (placed_pieces s) w
      (later_imply (λ (x y : PlacedPiece). Differ x.piece y.piece) (NotBoth (is_part w.piece.object w.piece.part))
      (not_both w.piece.object w.piece.part) (placed_pieces s) differ)
      c (and_from (bytes_eq w.piece.object w.piece.object) (is_same_part w.piece.part w.piece.part)
      ((bytes_eq-Decides w.piece.object w.piece.object).1 refl) (own_part w.piece.part))

  all_fields : (t : Site) → Contains (sites p s) t → HasField l t
  unfolding relocation_faults
  all_fields t c = no_error (site_field p s t)
      (none_in (λ u. result_err (site_field p s u)) (sites p s) t
      (last_empty (entry_fault (entry_point p s)) (filter_map (λ u. result_err (site_field p s u)) (sites p s))
      h.relocated) c)

  -- a site of a placed piece is one of the link
  among_sites : (w : PlacedPiece) → Contains (placed_pieces s) w → (part : Part) → w.piece.part ≡ part
      → (m : Option NamedObject) → object_named p w.piece.object ≡ m
      → (t : Site) → Contains (by_object w.start part m) t → Contains (sites p s) t
  unfolding sites
  among_sites w c (InCommon k) a m b t d = absurd (none_in_nil t d)
  among_sites w c (InTable k) a None b t d = absurd (none_in_nil t d)
  among_sites w c (InTable k) a (Some o) b t d = go (section_numbered o k) refl d
    where
      found : (o.name ≡ w.piece.object) × Contains p.objects o
      found = object_found p w.piece.object o b

      go : (n : Option LinkedSection) → section_numbered o k ≡ n → Contains (by_section o w.start n) t
          → Contains (flat_map (λ (x : NamedObject). flat_map (sites_of_section s x) x.object.sections) p.objects) t
      go None e f = absurd (none_in_nil t f)
      go (Some z) e f =
          let numbered = section_found o k z e in
          let own : placed_part s o.name (InTable z.number) ≡ Some w =
          ap (λ n. placed_part s n (InTable z.number)) found.0
          ∙ ap (λ n. placed_part s w.piece.object (InTable n)) numbered.0
          ∙ ap (placed_part s w.piece.object) (sym a) ∙ part_found w c in
          let all : sites_of_section s o z ≡ sites_at o z w.start =
          ap (λ n. option_map_or (λ (y : PlacedPiece). sites_at o z y.start) n []) own in
          flat_map_in (λ (x : NamedObject). flat_map (sites_of_section s x) x.object.sections) p.objects o t found.1
          (flat_map_in (sites_of_section s o) o.object.sections z t numbered.1
          (subst (λ ts. Contains ts t) (sym all) f))

  piece_fields : (x : LinkedPiece) → Contains (link_pieces l) x → Each (HasField l) (sites_in p x)
  unfolding linked_pieces
  piece_fields x c =
      let k = in_flat_map (λ (q : PlacedOutput). map (linked_piece p (segments s.sections) q) q.pieces) s.sections x c
      in
      let q : PlacedOutput = k.origin in
      let m = in_map (linked_piece p (segments s.sections) q) q.pieces x k.gives in
      let w : PlacedPiece = m.origin in
      let there : Contains (placed_pieces s) w = flat_map_in pieces_of s.sections q w k.among m.among in
      each_member (HasField l) (sites_in p x) (λ t d.
      all_fields t (among_sites w there w.piece.part refl (object_named p w.piece.object) refl t
      (subst (λ (y : LinkedPiece). Contains (by_object y.start y.part (object_named p y.object)) t) (sym m.gives)
      (subst (λ ts. Contains ts t) (sites_by p x) d))))

  pub is_good : IsGood l
  is_good = record {
    spread = script_spread (rows p) (provided p) p.script s placed;
    named = h.named;
    read = h.read;
    fields = piece_fields;
  }
