-- The entries of all rows say where input sections stand.
use Rattle.place.proofs.Common.{AreInPlace, Bool, Each, Global, HaveNumbers, IndexedSection, IsColumn, IsOwned}
use Rattle.place.proofs.Common.{IsSectionAddress, IsTableOf, Layout, List, None, Option, PlacedOutput, PlacedPiece}
use Rattle.place.proofs.Common.{Project, SectionAddress, Some, Vec, [], address_in, all_entries, ap, bytes_eq, cond}
use Rattle.place.proofs.Common.{drop, drop_at, each_parts, entries_in, entries_of, entry_of, false, find, find-append}
use Rattle.place.proofs.Common.{flat_map, is_part_of, is_same_part, is_some, length, length-map, list_any, map}
use Rattle.place.proofs.Common.{object_name, option_map, option_or, piece_in, position_from, refl, row_entries, rows_in}
use Rattle.place.proofs.Common.{starts_of, subst, sym, true, ℕ, ◌&&◌, ◌++◌, ◌+◌, ◌<◌, ◌||◌, ◌∙◌, ◌∷◌, ◌≡◌}
use Rattle.std.proofs.lemmas.Iterator.Adapters.{position_from-zero}
use Rattle.std.specs.Vec.{vec_items}
use Rattle.ldmodel.specs.Edits.{AreNamesDistinct}
use Rattle.ldmodel.specs.Rows as model
use Rattle.ldmodel.specs.SymbolValues.{is_part}
use Rattle.ldmodel.specs.declared.rows.Piece.{Piece}
use Rattle.ldmodel.specs.declared.sections.SectionRef.{SectionRef}
use Rattle.place.specs.LinkLayout.{IsLinkLayout}
use Rattle.place.specs.IndexedLayout.{IsIndexedLayout}
use Rattle.place.specs.declared.indexed_layout.IndexedLayout.{IndexedLayout}
use Rattle.place.proofs.Numbers.{same_key}
use Rattle.place.proofs.Column.{has_first}

module _ (p : Project) (distinct : AreNamesDistinct p.objects) (k : SectionRef) where
  -- an entry is the one that is looked for
  abbrev sought : IndexedSection → Bool
  sought = is_part_of k.object.0 k.part

  -- and so is a piece
  abbrev test : PlacedPiece → Bool
  test = is_part (object_name p k.object.0) k.part

  same_test : (n t : ℕ) (x : Piece) (y : PlacedPiece) → y.piece ≡ piece_in p x → IsOwned p y.piece
      → sought (entry_of n (x, t)) ≡ test y
  same_test n t x y e owned =
      ap (λ b. b && is_same_part x.section.part k.part)
      (same_key p distinct x.section.object.0 k.object.0
      (subst (λ (z : model.Piece). 0 < length z.object) e owned.some))
      ∙ ap (λ (z : model.Piece). bytes_eq z.object (object_name p k.object.0) && is_same_part z.part k.part) (sym e)

  abbrev place_with : ℕ → ℕ → ℕ → SectionAddress
  place_with n start size = record { start = start; size = size; section = record { 0 = n } }

  abbrev place_at : ℕ → PlacedPiece → SectionAddress
  place_at n y = place_with n y.start y.piece.size

  abbrev place_of : IndexedSection → SectionAddress
  place_of e = e.address

  -- the first of a row
  in_row : (n : ℕ) (row : List Piece) (ys : List PlacedPiece) (more : List ℕ)
      → map (λ (y : PlacedPiece). y.piece) ys ≡ map (piece_in p) row
      → Each (IsOwned p) (map (λ (y : PlacedPiece). y.piece) ys)
      → option_map place_of (find sought (row_entries n row (map (λ (y : PlacedPiece). y.start) ys ++ more)))
      ≡ option_map (place_at n) (find test ys)
  in_row n [] [] more e owned = refl
  in_row n [] (y ∷ ys) more e owned = cc
  in_row n (x ∷ row) [] more e owned = cc
  in_row n (x ∷ row) (y ∷ ys) more e owned =
      let one : y.piece ≡ piece_in p x = cc in
      let others : map (λ (y : PlacedPiece). y.piece) ys ≡ map (piece_in p) row = cc in
      go one (sought (entry_of n (x, y.start))) (test y) (same_test n y.start x y one owned.0)
      (in_row n row ys more others owned.1)
    where
      rest : Option IndexedSection
      rest = find sought (row_entries n row (map (λ (y : PlacedPiece). y.start) ys ++ more))

      go : y.piece ≡ piece_in p x → (a b : Bool) → a ≡ b
          → option_map place_of rest ≡ option_map (place_at n) (find test ys)
          → option_map place_of (cond a (Some (entry_of n (x, y.start))) rest)
          ≡ option_map (place_at n) (cond b (Some y) (find test ys))
      go one true true same e = ap (λ (z : model.Piece). Some (place_with n y.start z.size)) (sym one)
      go one true false same e = cc
      go one false true same e = cc
      go one false false same e = e

  -- the first of all sections from a number on
  abbrev place_from : ℕ → List PlacedOutput → Option SectionAddress
  place_from n [] = None
  place_from n (q ∷ qs) = option_or (option_map (place_at n) (find test q.pieces)) (place_from (n + 1) qs)

  map_or : (a b : Option IndexedSection) → option_map place_of (option_or a b)
      ≡ option_or (option_map place_of a) (option_map place_of b)
  map_or None b = refl
  map_or (Some x) b = refl

  any_found : (ys : List PlacedPiece) → list_any test ys ≡ is_some (find test ys)
  any_found [] = refl
  any_found (y ∷ ys) = go (test y) (any_found ys)
    where
      go : (b : Bool) → list_any test ys ≡ is_some (find test ys)
          → b || list_any test ys ≡ is_some (cond b (Some y) (find test ys))
      go true e = refl
      go false e = e

  -- the first entry of all rows
  in_rows : (n : ℕ) (rows : List (Vec Piece Global)) (qs : List PlacedOutput)
      → map entries_in qs ≡ map (λ (row : List Piece). map (piece_in p) row) (map vec_items rows)
      → Each (IsOwned p) (flat_map (λ (row : List model.Piece). row) (map entries_in qs))
      → option_map place_of (find sought (all_entries n rows (flat_map starts_of qs))) ≡ place_from n qs
  in_rows n [] [] e owned = refl
  in_rows n [] (q ∷ qs) e owned = cc
  in_rows n (row ∷ rows) [] e owned = cc
  in_rows n (row ∷ rows) (q ∷ qs) e owned =
      let owns = each_parts (IsOwned p) (entries_in q)
      (flat_map (λ (r : List model.Piece). r) (map entries_in qs)) owned in
      let here : entries_in q ≡ map (piece_in p) row.items = cc in
      let later : map entries_in qs ≡ map (λ (row : List Piece). map (piece_in p) row) (map vec_items rows) = cc in
      let more : List ℕ = flat_map starts_of qs in
      let own : List IndexedSection = row_entries n row.items (starts_of q ++ more) in
      let others : List IndexedSection =
      all_entries (n + 1) rows (drop (length row.items) (starts_of q ++ more)) in
      ap (option_map place_of) (find-append sought own others)
      ∙ map_or (find sought own) (find sought others)
      ∙ ap (λ o. option_or o (option_map place_of (find sought others))) (in_row n row.items q.pieces more here owns.0)
      ∙ ap (λ l. option_or (option_map (place_at n) (find test q.pieces))
      (option_map place_of (find sought (all_entries (n + 1) rows l))))
      (drop_at (starts_of q) more (length row.items) (as_long q row here))
      ∙ ap (option_or (option_map (place_at n) (find test q.pieces))) (in_rows (n + 1) rows qs later owns.1)
    where
      as_long : (q : PlacedOutput) (row : Vec Piece Global) → entries_in q ≡ map (piece_in p) row.items
          → length (starts_of q) ≡ length row.items
      as_long q row e =
          length-map q.pieces (λ (y : PlacedPiece). y.start) ∙ sym (length-map q.pieces (λ (y : PlacedPiece). y.piece))
          ∙ ap length e ∙ length-map row.items (piece_in p)

  abbrev all_pieces : List PlacedOutput → List PlacedPiece
  all_pieces qs = flat_map (λ (q : PlacedOutput). q.pieces) qs

  -- the number of the first section that has the part, where the first of all has this number
  abbrev first_section : ℕ → List PlacedOutput → Option ℕ
  first_section n qs = position_from (λ (q : PlacedOutput). list_any test q.pieces) n qs

  -- whether a place is that of the first piece, in the first section that has one
  abbrev IsPlace : Option PlacedPiece → Option ℕ → Option SectionAddress → Type 0
  IsPlace o i None = o ≡ None
  IsPlace o i (Some x) =
      (option_map (λ (y : PlacedPiece). y.start) o ≡ Some x.start) × (i ≡ Some x.section.0)
      × (option_map (λ (y : PlacedPiece). y.piece.size) o ≡ Some x.size)

  place_is : (n : ℕ) (qs : List PlacedOutput) → IsPlace (find test (all_pieces qs))
      (first_section n qs) (place_from n qs)
  place_is n [] = refl
  place_is n (q ∷ qs) =
      subst (λ o. IsPlace o (cond (list_any test q.pieces) (Some n) (first_section (n + 1) qs))
      (place_from n (q ∷ qs)))
      (sym (find-append test q.pieces (all_pieces qs)))
      (subst (λ b. IsPlace (option_or (find test q.pieces) (find test (all_pieces qs)))
      (cond b (Some n) (first_section (n + 1) qs)) (place_from n (q ∷ qs))) (sym (any_found q.pieces))
      (go (find test q.pieces) (find test (all_pieces qs)) (place_from (n + 1) qs) (place_is (n + 1) qs)))
    where
      go : (o later : Option PlacedPiece) (r : Option SectionAddress)
          → IsPlace later (first_section (n + 1) qs) r
          → IsPlace (option_or o later)
          (cond (is_some o) (Some n) (first_section (n + 1) qs))
          (option_or (option_map (place_at n) o) r)
      go None later r h = h
      go (Some y) later r h = (refl, refl, refl)

  -- the first entry is where the part stands
  pub is_place : (s : Layout) (rows : List (Vec Piece Global)) → map entries_in s.sections ≡ rows_in p rows
      → Each (IsOwned p) (entries_of s)
      → IsSectionAddress p s k
      (option_map place_of (find sought (all_entries 0 rows (flat_map starts_of s.sections))))
  is_place s rows e owned =
      subst (IsSectionAddress p s k) (sym (in_rows 0 rows s.sections e owned))
      (go (place_from 0 s.sections) (place_is 0 s.sections))
    where
      go : (r : Option SectionAddress) → IsPlace (find test (all_pieces s.sections))
          (first_section 0 s.sections) r
          → IsSectionAddress p s k r
      go None h = h
      go (Some x) h =
          (h.0, position_from-zero (λ (q : PlacedOutput). list_any test q.pieces) s.sections ∙ h.1, h.2)

-- where all entries have their numbers, everything is arranged
pub all_places : (p : Project) (s : Layout) (starts : List ℕ) (x : IndexedLayout) → AreNamesDistinct p.objects
    → AreInPlace p s → map entries_in s.sections ≡ rows_in p x.rows.items → starts ≡ flat_map starts_of s.sections
    → IsTableOf p x.table → rows_in p x.rows.items ≡ model.rows p
    → IsLinkLayout p s x.link_layout → HaveNumbers x.table (all_entries 0 x.rows.items starts)
    → IsColumn x.table (all_entries 0 x.rows.items starts) x.addresses.items → IsIndexedLayout p s x
all_places p s starts x distinct apart placed begin table rows link_layout numbers column =
    record {
      table = table;
      rows = rows;
      link_layout = link_layout;
      places = λ k. subst (IsSectionAddress p s k) (sym (same k))
          (is_place p distinct k s x.rows.items placed apart.owned);
      apart = apart;
    }
  where
    same : (k : SectionRef) → address_in x k
        ≡ option_map (λ (e : IndexedSection). e.address)
        (find (is_part_of k.object.0 k.part) (all_entries 0 x.rows.items (flat_map starts_of s.sections)))
    same k =
        has_first p (all_entries 0 x.rows.items starts) x.table x.addresses.items table numbers column k.object.0
        k.part
        ∙ ap (λ xs. option_map (λ (e : IndexedSection). e.address)
        (find (is_part_of k.object.0 k.part) (all_entries 0 x.rows.items xs))) begin
