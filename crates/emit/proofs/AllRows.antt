-- All rows, one after another.
use Rattle.emit.proofs.Common.{AllZip, AreRowsAt, AreSources, Bool, Differ, Each, EachLater, ImagePiece, InCommon}
use Rattle.emit.proofs.Common.{InTable, IsJoinedRow, IsRowAt, IsSized, KnownLink, Layout, List, Part, Piece}
use Rattle.emit.proofs.Common.{PlacedOutput, PlacedPiece, Project, SectionRef, Some, [], ap, arith, bytes_eq}
use Rattle.emit.proofs.Common.{bytes_eq-Decides, drop, drop_at, each_at, entries_in, eq-eqb, false, find_at, flat_map}
use Rattle.emit.proofs.Common.{is_same_part, later_of_map, length, length-append, length-drop, length-map, map}
use Rattle.emit.proofs.Common.{map-append, option_map, placed_part, placed_pieces, refl, same_Some, slice_get}
use Rattle.emit.proofs.Common.{slice_get-map, starts_of, subst, suc, sym, take, take_all, true, zero, zip_more, ℕ, ◌&&◌}
use Rattle.emit.proofs.Common.{◌++◌, ◌+◌, ◌-◌, ◌<◌, ◌∙◌, ◌∷◌, ◌≡◌, ◌≤◌}
use Rattle.place.specs.declared.indexed_layout.IndexedLayout.{IndexedLayout}
use Rattle.emit.specs.declared.relocated.Relocated.{Relocated}
use Rattle.emit.proofs.Lists.{get_left, take_next}
use Rattle.emit.proofs.Running.{drop_drop}

-- ---- each input section is found

own_part : (part : Part) → is_same_part part part ≡ true
own_part (InTable k) = eq-eqb k.0 k.0 refl
own_part (InCommon x) = eq-eqb x.0 x.0 refl

abbrev same_part : PlacedPiece → PlacedPiece → Bool
same_part x y = bytes_eq x.piece.object y.piece.object && is_same_part x.piece.part y.piece.part

own : (x : PlacedPiece) → same_part x x ≡ true
own x =
    ap (λ b. b && is_same_part x.piece.part x.piece.part) ((bytes_eq-Decides x.piece.object x.piece.object).1 refl)
    ∙ own_part x.piece.part

entries_flat : (qs : List PlacedOutput) → flat_map (λ r. r) (map entries_in qs)
    ≡ map (λ (x : PlacedPiece). x.piece) (flat_map (λ (q : PlacedOutput). q.pieces) qs)
entries_flat [] = refl
entries_flat (q ∷ qs) =
    ap (λ l. entries_in q ++ l) (entries_flat qs)
    ∙ sym (map-append (λ (x : PlacedPiece). x.piece) q.pieces (flat_map (λ (r : PlacedOutput). r.pieces) qs))

each_by : {X : Type 0} (P : X → Type 0) (xs : List X) → ((k : ℕ) (x : X) → slice_get xs k ≡ Some x → P x) → Each P xs
each_by P [] h = tt
each_by P (x ∷ xs) h = (h 0 x refl, each_by P xs (λ k y e. h (suc k) y e))

each_split : {X : Type 0} (P : X → Type 0) (xs ys : List X) → Each P (xs ++ ys) → Each P xs × Each P ys
each_split P [] ys h = (tt, h)
each_split P (x ∷ xs) ys h = let k = each_split P xs ys h.1 in ((h.0, k.0), k.1)

each_part : (P : PlacedPiece → Type 0) (qs : List PlacedOutput)
    → Each P (flat_map (λ (q : PlacedOutput). q.pieces) qs) → Each (λ (q : PlacedOutput). Each P q.pieces) qs
each_part P [] h = tt
each_part P (q ∷ qs) h =
    let k = each_split P q.pieces (flat_map (λ (r : PlacedOutput). r.pieces) qs) h in (k.0, each_part P qs k.1)

pub all_found : (s : Layout) (rows : List (List Piece)) → map entries_in s.sections ≡ rows
    → EachLater Differ (flat_map (λ r. r) rows)
    → Each (λ (q : PlacedOutput).
    Each (λ (w : PlacedPiece). placed_part s w.piece.object w.piece.part ≡ Some w) q.pieces) s.sections
all_found s rows placed differ =
    let apart : EachLater (λ (x y : PlacedPiece). same_part x y ≡ false) (placed_pieces s) =
    later_of_map Differ (λ (x : PlacedPiece). x.piece) (placed_pieces s)
    (subst (EachLater Differ)
    (ap (flat_map (λ (r : List Piece). r)) (sym placed) ∙ entries_flat s.sections) differ) in
    each_part (λ (w : PlacedPiece). placed_part s w.piece.object w.piece.part ≡ Some w) s.sections
    (each_by (λ (w : PlacedPiece). placed_part s w.piece.object w.piece.part ≡ Some w) (placed_pieces s)
    (λ k w e. find_at same_part own (placed_pieces s) apart k w e))

-- ---- row by row

module _ (p : Project) (stays : SectionRef → Bool) (indexed_layout : IndexedLayout) (r : Relocated)
    (rows : List (List Piece))
    (starts : List ℕ) where
  -- the rows before a number are drawn, and the others begin at the addresses that are left
  pub record RowsSoFar (k at : ℕ) (ys : List (List ImagePiece)) : Type 0 where
    pub within : at ≤ length starts
    pub drawn : (l : KnownLink) → l.project ≡ p → AreSources l stays indexed_layout r → AreRowsAt p l.layout rows starts
        → AllZip (IsJoinedRow l.project l.layout stays) (take k l.layout.sections) ys
    pub rest : (l : KnownLink) → AreRowsAt p l.layout rows starts
        → drop at starts ≡ flat_map starts_of (drop k l.layout.sections)

  pub no_rows : RowsSoFar 0 0 []
  no_rows = record {
    within = omega arith;
    drawn = λ l same sources h. tt;
    rest = λ l h. h.begun;
  }

  member_at : {X : Type 0} (xs : List X) (k : ℕ) → k < length xs → (x : X) × (slice_get xs k ≡ Some x)
  member_at [] k l = absurd (omega (arith, l))
  member_at (x ∷ xs) zero l = (x, refl)
  member_at (x ∷ xs) (suc k) l = member_at xs k (omega (arith, l))

  drop_next : {X : Type 0} (xs : List X) (k : ℕ) (x : X) → slice_get xs k ≡ Some x → drop k xs ≡ x ∷ drop (k + 1) xs
  drop_next [] k x e = absurd (let none : ⊥ = cc in none)
  drop_next (y ∷ ys) zero x e = ap (λ z. z ∷ ys) (same_Some _ _ e)
  drop_next (y ∷ ys) (suc k) x e =
      let more : suc (k + 1) ≡ suc k + 1 = omega arith in
      drop_next ys k x e ∙ ap (λ n. x ∷ drop n (y ∷ ys)) more

  -- the output section of a row
  record Placed (s : Layout) (k at : ℕ) (row : List Piece) : Type 0 where
    pub section : PlacedOutput
    pub here : slice_get s.sections k ≡ Some section
    pub entry : slice_get rows k ≡ Some row
    pub entries : row ≡ entries_in section
    pub begun : drop at starts ≡ starts_of section ++ flat_map starts_of (drop (k + 1) s.sections)

  placed_at : (l : KnownLink) (k at : ℕ) (row : List Piece) (ys : List (List ImagePiece)) → slice_get rows k ≡ Some row
      → k < length rows → AreRowsAt p l.layout rows starts → RowsSoFar k at ys → Placed l.layout k at row
  placed_at l k at row ys e below h so_far =
      let many : length l.layout.sections ≡ length rows =
      sym (length-map l.layout.sections entries_in) ∙ ap length h.placed in
      let q = member_at l.layout.sections k (omega (arith, below, many)) in
      let its : slice_get rows k ≡ Some (entries_in q.0) =
      ap (λ rs. slice_get rs k) (sym h.placed) ∙ slice_get-map entries_in l.layout.sections k
      ∙ ap (option_map entries_in) q.1 in
      record {
        section = q.0;
        here = q.1;
        entry = e;
        entries = same_Some _ _ (sym e ∙ its);
        begun = so_far.rest l h ∙ ap (flat_map starts_of) (drop_next l.layout.sections k q.0 q.1);
      }

  -- the addresses that are left are enough for the row
  room_at : (l : KnownLink) (k at : ℕ) (row : List Piece) (q : Placed l.layout k at row)
      → length row ≤ length (drop at starts)
  room_at l k at row q =
      let later : List ℕ = flat_map starts_of (drop (k + 1) l.layout.sections) in
      omega (
        arith,
        ap length q.entries,
        length-map q.section.pieces (λ (x : PlacedPiece). x.piece),
        length-map q.section.pieces (λ (x : PlacedPiece). x.start),
        ap length q.begun,
        length-append (starts_of q.section) later,
      )

  row_at : (l : KnownLink) (k at : ℕ) (row : List Piece) (h : AreRowsAt p l.layout rows starts)
      (q : Placed l.layout k at row) → IsRowAt p l.layout row (drop at starts) q.section
  row_at l k at row h q = record {
    long = ap length q.entries ∙ length-map q.section.pieces (λ (x : PlacedPiece). x.piece);
    enough = room_at l k at row q;
    each = λ j piece start w there at_row at_start. (
        let own_entry : slice_get row j ≡ Some w.piece =
        ap (λ es. slice_get es j) q.entries ∙ slice_get-map (λ (x : PlacedPiece). x.piece) q.section.pieces j
        ∙ ap (option_map (λ (x : PlacedPiece). x.piece)) there in
        let own_start : slice_get (drop at starts) j ≡ Some w.start =
        ap (λ es. slice_get es j) q.begun
        ∙ get_left (starts_of q.section) (flat_map starts_of (drop (k + 1) l.layout.sections)) j w.start
        (slice_get-map (λ (x : PlacedPiece). x.start) q.section.pieces j
        ∙ ap (option_map (λ (x : PlacedPiece). x.start)) there) in
        record {
          piece_is = same_Some _ _ (sym own_entry ∙ at_row);
          start_is = same_Some _ _ (sym own_start ∙ at_start);
          found = each_at (λ (x : PlacedPiece). placed_part l.layout x.piece.object x.piece.part ≡ Some x)
              q.section.pieces j w
              (each_at (λ (z : PlacedOutput).
              Each (λ (x : PlacedPiece). placed_part l.layout x.piece.object x.piece.part ≡ Some x) z.pieces)
              l.layout.sections k q.section h.found q.here)
              there;
          sized = each_at (IsSized p) row j piece (each_at (Each (IsSized p)) rows k row h.sized q.entry) at_row;
        }
        );
  }

  pub one_row : (k at step : ℕ) (row : List Piece) (y : List ImagePiece) (old new : List (List ImagePiece))
      → slice_get rows k ≡ Some row → k < length rows → step ≤ length starts - at
      → (length row ≤ length starts - at → step ≡ length row)
      → ((l : KnownLink) (q : PlacedOutput) → l.project ≡ p → AreSources l stays indexed_layout r
      → IsRowAt p l.layout row (drop at starts) q → IsJoinedRow l.project l.layout stays q y) → new ≡ old ++ y ∷ []
      → RowsSoFar k at old → RowsSoFar (k + 1) (at + step) new
  one_row k at step row y old new e below few all make pushed so_far = record {
    within = omega (arith, few, so_far.within);
    drawn = λ l same sources h.
        let q = placed_at l k at row old e below h so_far in
        subst (λ qs. AllZip (IsJoinedRow l.project l.layout stays) qs new)
        (sym (take_next l.layout.sections k q.section q.here))
        (subst (λ zs. AllZip (IsJoinedRow l.project l.layout stays) (take k l.layout.sections ++ q.section ∷ []) zs)
        (sym pushed)
        (zip_more (IsJoinedRow l.project l.layout stays) (take k l.layout.sections) old q.section y
        (so_far.drawn l same sources h)
        (make l q.section same sources (row_at l k at row h q))));
    rest = λ l h.
        let q = placed_at l k at row old e below h so_far in
        let long : length (starts_of q.section) ≡ length row =
        length-map q.section.pieces (λ (x : PlacedPiece). x.start)
        ∙ sym (ap length q.entries ∙ length-map q.section.pieces (λ (x : PlacedPiece). x.piece)) in
        let fits : step ≡ length row = all (omega (arith, room_at l k at row q, length-drop at starts)) in
        ap (λ n. drop (at + n) starts) fits ∙ sym (drop_drop at (length row) starts) ∙ ap (drop (length row)) q.begun
        ∙ drop_at (starts_of q.section) (flat_map starts_of (drop (k + 1) l.layout.sections)) (length row) long;
  }

  pub all_rows : (l : KnownLink) (k at : ℕ) (ys : List (List ImagePiece)) → length rows ≤ k → l.project ≡ p
      → AreSources l stays indexed_layout r → AreRowsAt p l.layout rows starts → RowsSoFar k at ys
      → AllZip (IsJoinedRow l.project l.layout stays) l.layout.sections ys
  all_rows l k at ys past same sources h so_far =
      let many : length l.layout.sections ≡ length rows =
      sym (length-map l.layout.sections entries_in) ∙ ap length h.placed in
      subst (λ qs. AllZip (IsJoinedRow l.project l.layout stays) qs ys)
      (take_all k l.layout.sections (omega (arith, past, many)))
      (so_far.drawn l same sources h)
