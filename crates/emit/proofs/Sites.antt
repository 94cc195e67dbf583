-- The sites of the sections of an object where they stand are all sites of the object.
use Rattle.emit.proofs.Common.{All-contains, AllPairs, Bool, Contains, HasLocatedSections, InTable, IsLocatedSection}
use Rattle.emit.proofs.Common.{Layout, LinkedSection, List, LocatedSection, NamedObject, None, Option, PlacedOutput}
use Rattle.emit.proofs.Common.{PlacedPiece, Project, Some, [], and_parts, ap, arith, bytes_eq, bytes_eq-Decides, eq-eqb}
use Rattle.emit.proofs.Common.{eqb-true, false, false≢true, first_or_later, flat_map, here, in_flat_map, is_part}
use Rattle.emit.proofs.Common.{is_same_part, later, linked, none_in_nil, option_map_or, placed_part, placed_pieces}
use Rattle.emit.proofs.Common.{range_of, refl, same_Some, segments, sites_at, sites_in_all, sites_of, sites_of_section}
use Rattle.emit.proofs.Common.{sites_there, slice_get, subst, suc, sym, true, zero, ℕ, ⊎_elim, ◌++◌, ◌+◌, ◌<◌, ◌==◌}
use Rattle.emit.proofs.Common.{◌∙◌, ◌∷◌, ◌≡◌, ◌≤◌}
use Rattle.ldmodel.specs.Stayed.{GoodLink, linked_piece, range_in}
use Rattle.ldmodel_laws.proofs.SameParts.{same_part}
use Rattle.emit.proofs.Places.{Found, found}

-- ---- the input section of a spot

pub record SpotPiece (p : Project) (s : Layout) (o : NamedObject) (t : LocatedSection)
    (k : IsLocatedSection p s o t) : Type 0 where
  pub q : PlacedOutput
  pub there : Contains s.sections q
  pub among : Contains q.pieces k.piece
  pub object_is : k.piece.piece.object ≡ o.name
  pub part_is : k.piece.piece.part ≡ InTable k.section.number
  pub start_is : k.piece.start ≡ t.start
  pub range_is : range_in (segments s.sections) q k.piece ≡ range_of t.range

pub spot_piece : (p : Project) (s : Layout) (o : NamedObject) (t : LocatedSection) (k : IsLocatedSection p s o t)
    → SpotPiece p s o t k
spot_piece p s o t k =
    let f : Found (is_part o.name (InTable k.section.number)) (placed_pieces s) k.piece =
    found (is_part o.name (InTable k.section.number)) (placed_pieces s) k.piece k.placed in
    let both = and_parts (bytes_eq k.piece.piece.object o.name)
    (is_same_part k.piece.piece.part (InTable k.section.number)) f.passes in
    let object_is : k.piece.piece.object ≡ o.name = (bytes_eq-Decides k.piece.piece.object o.name).0 both.0 in
    let part_is : k.piece.piece.part ≡ InTable k.section.number =
    same_part k.piece.piece.part (InTable k.section.number) both.1 in
    let in_q = in_flat_map (λ (q : PlacedOutput). q.pieces) s.sections k.piece f.among in
    let l : GoodLink = record { project = p; layout = s } in
    let stands = k.stands (linked_piece p (segments s.sections) in_q.origin k.piece)
    (linked l in_q.origin k.piece in_q.among in_q.gives) object_is part_is in
    record {
      q = in_q.origin;
      there = in_q.among;
      among = in_q.gives;
      object_is = object_is;
      part_is = part_is;
      start_is = stands.0;
      range_is = stands.1;
    }

-- ---- spots of sections from a place on

module _ (p : Project) (s : Layout) (o : NamedObject) where
  record Stands (n : ℕ) (xs : List LinkedSection) (t : LocatedSection) : Type 0 where
    place : ℕ
    section : LinkedSection
    piece : PlacedPiece
    index : t.index.0 ≡ n + place
    section_is : slice_get xs place ≡ Some section
    placed : placed_part s o.name (InTable section.number) ≡ Some piece
    own : sites_there o t ≡ sites_at o section piece.start

  record AreSpots (n : ℕ) (xs : List LinkedSection) (ts : List LocatedSection) : Type 0 where
    each : (t : LocatedSection) → Contains ts t → Stands n xs t
    ascending : AllPairs (λ (t u : LocatedSection). t.index.0 < u.index.0) ts
    all : (k : ℕ) (x : LinkedSection) (y : PlacedPiece) → slice_get xs k ≡ Some x
        → placed_part s o.name (InTable x.number) ≡ Some y → (t : LocatedSection) × Contains ts t × (t.index.0 ≡ n + k)

  none_stands : (n : ℕ) (t : LocatedSection) → Stands n [] t → ⊥
  none_stands n t h = go h.section_is
    where
      go : slice_get [] h.place ≡ Some h.section → ⊥
      go e = cc

  -- not the first section
  past_first : (n : ℕ) (x : LinkedSection) (xs : List LinkedSection) (t : LocatedSection) → Stands n (x ∷ xs) t
      → n < t.index.0 → Stands (suc n) xs t
  past_first n x xs t h low = go h.place h.index h.section_is
    where
      go : (k : ℕ) → t.index.0 ≡ n + k → slice_get (x ∷ xs) k ≡ Some h.section → Stands (suc n) xs t
      go zero e f = absurd (omega (arith, e, low))
      go (suc k) e f = record {
        place = k;
        section = h.section;
        piece = h.piece;
        index = omega (arith, e);
        section_is = f;
        placed = h.placed;
        own = h.own;
      }

  is_first : (n : ℕ) (x : LinkedSection) (xs : List LinkedSection) (t : LocatedSection) (h : Stands n (x ∷ xs) t)
      → t.index.0 ≡ n → x ≡ h.section
  is_first n x xs t h at = go h.place h.index h.section_is
    where
      go : (k : ℕ) → t.index.0 ≡ n + k → slice_get (x ∷ xs) k ≡ Some h.section → x ≡ h.section
      go zero e f = same_Some _ _ f
      go (suc k) e f = absurd (omega (arith, e, at))

  above : (n : ℕ) (xs : List LinkedSection) (t : LocatedSection) → Stands n xs t → n ≤ t.index.0
  above n xs t h = omega (arith, h.index)

  -- a later spot has a greater index
  later_above : (t : LocatedSection) (ts : List LocatedSection) (u : LocatedSection)
      → AllPairs (λ (a b : LocatedSection). a.index.0 < b.index.0) (t ∷ ts) → Contains ts u → t.index.0 < u.index.0
  later_above t ts u h c =
      let P : LocatedSection → Type 0 = λ (b : LocatedSection). t.index.0 < b.index.0 in
      subst P c.2 (h 0 (suc c.0) u (omega arith) (omega (arith, c.1)))

  rest_ascends : (t : LocatedSection) (ts : List LocatedSection)
      → AllPairs (λ (a b : LocatedSection). a.index.0 < b.index.0) (t ∷ ts)
      → AllPairs (λ (a b : LocatedSection). a.index.0 < b.index.0) ts
  rest_ascends t ts h = λ i j d a b. h (suc i) (suc j) d (omega (arith, a)) (omega (arith, b))

  all_sites : (n : ℕ) (xs : List LinkedSection) (ts : List LocatedSection) → AreSpots n xs ts
      → flat_map (sites_there o) ts ≡ flat_map (sites_of_section s o) xs
  all_sites n [] [] h = refl
  all_sites n [] (t ∷ ts) h = absurd (none_stands n t (h.each t (here t ts)))
  all_sites n (x ∷ xs) ts h =
      go (placed_part s o.name (InTable x.number)) refl ts h (λ us. all_sites (suc n) xs us)
    where
      go : (m : Option PlacedPiece) → placed_part s o.name (InTable x.number) ≡ m → (us : List LocatedSection)
          → AreSpots n (x ∷ xs) us
          → ((vs : List LocatedSection) → AreSpots (suc n) xs vs
          → flat_map (sites_there o) vs ≡ flat_map (sites_of_section s o) xs)
          → flat_map (sites_there o) us
          ≡ option_map_or (λ (y : PlacedPiece). sites_at o x y.start) m [] ++ flat_map (sites_of_section s o) xs
      go None e us k rest = rest us (record {
        each = λ t c. let own = k.each t c in past_first n x xs t own (beyond t own);
        ascending = k.ascending;
        all = λ j y z f g. let a = k.all (suc j) y z f g in (a.0, a.1, omega (arith, a.2));
      })
        where
          beyond : (t : LocatedSection) → Stands n (x ∷ xs) t → n < t.index.0
          beyond t own = at (t.index.0 == n) refl
            where
              at : (b : Bool) → (t.index.0 == n) ≡ b → n < t.index.0
              at true f =
                  let first : x ≡ own.section = is_first n x xs t own (eqb-true t.index.0 n f) in
                  let placed : placed_part s o.name (InTable x.number) ≡ Some own.piece =
                  ap (λ (y : LinkedSection). placed_part s o.name (InTable y.number)) first ∙ own.placed in
                  let both : None ≡ Some own.piece = sym e ∙ placed in
                  absurd (let no : ⊥ = cc in no)
              at false f =
                  let low = above n (x ∷ xs) t own in
                  let other : t.index.0 ≡ n → ⊥ = λ is. false≢true (sym f ∙ eq-eqb t.index.0 n is) in
                  omega (arith, low, other)
      go (Some y) e [] k rest = absurd (none_in_nil (k.all 0 x y refl e).0 (k.all 0 x y refl e).1)
      go (Some y) e (t ∷ us) k rest =
          let a = k.all 0 x y refl e in
          let own = k.each t (here t us) in
          let at : t.index.0 ≡ n = ⊎_elim
          (λ is. let f : t.index.0 ≡ a.0.index.0 = ap (λ (u : LocatedSection). u.index.0) is in omega (arith, f, a.2))
          (λ c. let up = later_above t us a.0 k.ascending c in let low = above n (x ∷ xs) t own in
          absurd (omega (arith, up, low, a.2)))
          (first_or_later t us a.0 a.1) in
          let first : x ≡ own.section = is_first n x xs t own at in
          let piece : y ≡ own.piece = same_Some _ _
          (sym e ∙ ap (λ (z : LinkedSection). placed_part s o.name (InTable z.number)) first ∙ own.placed) in
          ap (λ ss. ss ++ flat_map (sites_there o) us)
          (own.own ∙ ap (λ (z : LinkedSection). sites_at o z own.piece.start) (sym first)
          ∙ ap (λ (z : PlacedPiece). sites_at o x z.start) (sym piece))
          ∙ ap (λ ss. sites_at o x y.start ++ ss) (rest us (record {
            each = λ u c. past_first n x xs u (k.each u (later t us u c))
                (let up = later_above t us u k.ascending c in omega (arith, up, at));
            ascending = rest_ascends t us k.ascending;
            all = λ j z w f g.
                let b = k.all (suc j) z w f g in (
                  b.0,
                  ⊎_elim
                      (λ is. let i : t.index.0 ≡ b.0.index.0 = ap (λ (u : LocatedSection). u.index.0) is in
                      absurd (omega (arith, i, at, b.2)))
                      (λ c. c) (first_or_later t us b.0 b.1),
                  omega (arith, b.2),
                );
          }))

  -- ---- all spots

  pub spots_have_sites : (ts : List LocatedSection) → HasLocatedSections p s o ts → sites_in_all o ts ≡ sites_of s o
  spots_have_sites ts h = all_sites 0 o.object.sections ts (record {
    each = λ t c. stands t (All-contains (IsLocatedSection p s o) ts t h.each c);
    ascending = h.ascending;
    all = λ k x y e f. let a = h.all k x y e f in (a.0, a.1, omega (arith, a.2));
  })
    where
      stands : (t : LocatedSection) → IsLocatedSection p s o t → Stands 0 o.object.sections t
      stands t k =
          let own = spot_piece p s o t k in
          record {
            place = t.index.0;
            section = k.section;
            piece = k.piece;
            index = omega arith;
            section_is = k.section_is;
            placed = k.placed;
            own =
                ap (λ m. option_map_or (λ (x : LinkedSection). sites_at o x t.start) m []) k.section_is
                ∙ ap (sites_at o k.section) (sym own.start_is);
          }
