-- The bytes of the input sections that stayed are no more than those of the image.
use Rattle.ldmodel_laws.proofs.Common.{Bool, Contains, Each, EachLater, IsGood, IsSpread, List, PlacedOutput}
use Rattle.ldmodel_laws.proofs.Common.{PlacedPiece, Segment, [], ap, arith, bytes_stayed, cond, false, filter, flat_map}
use Rattle.ldmodel_laws.proofs.Common.{image_length, length, linked_pieces, map, not, refl, segments, subst, sym, true}
use Rattle.ldmodel_laws.proofs.Common.{ℕ, ◌&&◌, ◌+◌, ◌-◌, ◌==◌, ◌∙◌, ◌∷◌, ◌≡◌, ◌≤◌}
use Rattle.std.specs.Prelude.{sum_by}
use Rattle.std.proofs.lemmas.Bool.Decides.{nat_tests}
use Rattle.std.proofs.lemmas.List.Sums.{sum_by-append, sum_by-cons}
use Rattle.ldmodel.specs.Segments.{SectionInFile, file_offset, headers_end, in_file, loaded_end, nonempty}
use Rattle.ldmodel.specs.Stayed.{FileRange, GoodLink, LinkedPiece, has_stayed, linked_piece, link_pieces, range_in}
use Rattle.ldmodel.specs.Stayed.{stayed}
use Rattle.ldmodel_laws.specs.FileOrder.{AreInFileOrder, end_in_file, with_file_bytes}
use Rattle.ldmodel_laws.proofs.FileOrder.{files_in_order}
use Rattle.ldmodel_laws.proofs.Finding.{member_of}
use Rattle.ldmodel_laws.proofs.InImage.{loaded_in_image}
use Rattle.ldmodel_laws.proofs.Members.{here, later}
use Rattle.ldmodel_laws.proofs.PieceBytes.{all_sections}

-- ---- sums

sum_mapped : {X Y : Type 0} (g : Y → ℕ) (f : X → Y) (xs : List X) → sum_by g (map f xs) ≡ sum_by (λ x. g (f x)) xs
sum_mapped g f [] = refl
sum_mapped g f (x ∷ xs) =
    sum_by-cons g (f x) (map f xs) ∙ ap (λ n. g (f x) + n) (sum_mapped g f xs)
    ∙ sym (sum_by-cons (λ z. g (f z)) x xs)

sum_below : {X : Type 0} (f g : X → ℕ) (xs : List X) → ((x : X) → Contains xs x → f x ≤ g x) → sum_by f xs
    ≤ sum_by g xs
sum_below f g [] h = omega arith
sum_below f g (x ∷ xs) h =
    let own = h x (here x xs) in
    let rest = sum_below f g xs (λ y c. h y (later x xs y c)) in
    let left = sum_by-cons f x xs in
    let right = sum_by-cons g x xs in
    omega (arith, own, rest, left, right)

-- what a test keeps adds no more than all
sum_kept : {X : Type 0} (g : X → ℕ) (test : X → Bool) (xs : List X) → sum_by g (filter test xs) ≤ sum_by g xs
sum_kept g test [] = omega arith
sum_kept {X} g test (x ∷ xs) = go (test x) (sum_kept g test xs)
  where
    go : (b : Bool) → sum_by g (filter test xs) ≤ sum_by g xs
        → sum_by g (cond b (x ∷ filter test xs) (filter test xs)) ≤ sum_by g (x ∷ xs)
    go true h =
        let left = sum_by-cons g x (filter test xs) in
        let right = sum_by-cons g x xs in
        omega (arith, h, left, right)
    go false h = let right = sum_by-cons g x xs in omega (arith, h, right)

-- what a test leaves out adds nothing
sum_passing : {X : Type 0} (f g : X → ℕ) (test : X → Bool) (xs : List X) → ((x : X) → test x ≡ false → f x ≡ 0)
    → ((x : X) → test x ≡ true → f x ≡ g x) → sum_by f xs ≡ sum_by g (filter test xs)
sum_passing f g test [] none some = refl
sum_passing {X} f g test (x ∷ xs) none some =
    sum_by-cons f x xs ∙ go (test x) refl (sum_passing f g test xs none some)
  where
    go : (b : Bool) → test x ≡ b → sum_by f xs ≡ sum_by g (filter test xs) → f x + sum_by f xs
        ≡ sum_by g (cond b (x ∷ filter test xs) (filter test xs))
    go true t e = ap (λ n. n + sum_by f xs) (some x t) ∙ ap (λ n. g x + n) e ∙ sym (sum_by-cons g x (filter test xs))
    go false t e = let zero : f x ≡ 0 = none x t in omega (arith, zero, e)

-- members of a range, each past the earlier ones, have no more than the range
module _ {X : Type 0} (start size : X → ℕ) (high : ℕ) where
  both_each : (low end : ℕ) (xs : List X) → Each (λ x. (low ≤ start x) × (start x + size x ≤ high)) xs
      → Each (λ x. end ≤ start x) xs → Each (λ x. (end ≤ start x) × (start x + size x ≤ high)) xs
  both_each low end [] h k = tt
  both_each low end (x ∷ xs) h k = ((k.0, h.0.1), both_each low end xs h.1 k.1)

  ascending_sum : (low : ℕ) (xs : List X) → low ≤ high → Each (λ x. (low ≤ start x) × (start x + size x ≤ high)) xs
      → EachLater (λ x y. start x + size x ≤ start y) xs → low + sum_by size xs ≤ high
  ascending_sum low [] l h k = omega (arith, l)
  ascending_sum low (x ∷ xs) l h k =
      let rest = ascending_sum (start x + size x) xs h.0.1 (both_each low (start x + size x) xs h.1 k.0) k.1 in
      let all = sum_by-cons size x xs in
      omega (arith, rest, all, h.0.0)

-- ---- the bytes of input sections

-- of a section: what it has in the file
abbrev file_size_of : PlacedOutput → ℕ
file_size_of q = cond q.has_file_bytes q.size 0

range_below : (gs : List Segment) (q : PlacedOutput) (u : PlacedPiece) → (range_in gs q u).length
    ≤ cond q.has_file_bytes u.piece.size 0
range_below gs q u = go q.has_file_bytes (not (u.piece.size == 0))
  where
    own : FileRange
    own = record { offset = file_offset gs q + (u.start - q.start); length = u.piece.size }

    none : FileRange
    none = record { offset = 0; length = 0 }

    go : (b c : Bool) → (cond (b && c) own none).length ≤ cond b u.piece.size 0
    go true true = omega arith
    go true false = omega arith
    go false c = omega arith

module _ (gs : List Segment) (q : PlacedOutput) (spread : IsSpread q) where
  sizes_below : sum_by (λ (u : PlacedPiece). u.piece.size) q.pieces ≤ q.size
  sizes_below =
      let all = ascending_sum (λ (u : PlacedPiece). u.start) (λ (u : PlacedPiece). u.piece.size) (q.start + q.size)
      q.start q.pieces (omega arith) spread.pieces_inside spread.pieces_ascend in
      omega (arith, all)

  ranges_below : sum_by (λ (u : PlacedPiece). (range_in gs q u).length) q.pieces ≤ file_size_of q
  ranges_below = go q.has_file_bytes refl
    where
      nothing : PlacedPiece → ℕ
      nothing u = 0

      none : (us : List PlacedPiece) → sum_by nothing us ≡ 0
      none [] = refl
      none (u ∷ us) =
          let all = sum_by-cons nothing u us in
          let rest = none us in
          omega (arith, all, rest)

      own : PlacedPiece → ℕ
      own u = (range_in gs q u).length

      low : (b : Bool) → q.has_file_bytes ≡ b → (u : PlacedPiece) → own u ≤ cond b u.piece.size 0
      low b e u = subst (λ c. own u ≤ cond c u.piece.size 0) e (range_below gs q u)

      go : (b : Bool) → q.has_file_bytes ≡ b → sum_by own q.pieces ≤ cond b q.size 0
      go true e =
          let few = sum_below own (λ (u : PlacedPiece). u.piece.size) q.pieces (λ u c. low true e u) in
          let all = sizes_below in
          omega (arith, few, all)
      go false e =
          let few = sum_below own nothing q.pieces (λ u c. low false e u) in
          let all = none q.pieces in
          omega (arith, few, all)

-- ---- the output sections in the file

files_below : (sections : List PlacedOutput) → sum_by file_size_of sections ≤ loaded_end (segments sections)
files_below sections =
    let sized : sum_by file_size_of sections ≡ sum_by file_size_of (nonempty sections) =
    sum_passing file_size_of file_size_of (λ (q : PlacedOutput). not (q.size == 0)) sections empty (λ q e. refl) in
    let in_them : sum_by file_size_of (nonempty sections) ≡ sum_by (λ (x : SectionInFile). file_size_of x.section) fs =
    ap (sum_by file_size_of) (sym (all_sections sections))
    ∙ sum_mapped file_size_of (λ (x : SectionInFile). x.section) fs in
    let with_bytes : sum_by (λ (x : SectionInFile). file_size_of x.section) fs
    ≡ sum_by (λ (x : SectionInFile). x.section.size) (with_file_bytes gs) =
    sum_passing (λ (x : SectionInFile). file_size_of x.section) (λ (x : SectionInFile). x.section.size)
    (λ (x : SectionInFile). x.section.has_file_bytes) fs
    (λ x e. ap (λ b. cond b x.section.size 0) e) (λ x e. ap (λ b. cond b x.section.size 0) e) in
    let order : AreInFileOrder gs = files_in_order sections in
    let all = ascending_sum (λ (x : SectionInFile). x.offset) (λ (x : SectionInFile). x.section.size) (loaded_end gs)
    0 (with_file_bytes gs) (omega arith) (from_0 (with_file_bytes gs) order.inside) order.ascend in
    omega (arith, sized, in_them, with_bytes, all)
  where
    gs : List Segment
    gs = segments sections

    fs : List SectionInFile
    fs = in_file gs

    empty : (q : PlacedOutput) → not (q.size == 0) ≡ false → file_size_of q ≡ 0
    empty q e =
        let zero : q.size ≡ 0 = grind (arith, nat_tests) in
        ap (λ n. cond q.has_file_bytes n 0) zero ∙ both q.has_file_bytes
      where
        both : (b : Bool) → cond b (let n : ℕ = 0 in n) 0 ≡ 0
        both true = refl
        both false = refl

    from_0 : (xs : List SectionInFile)
        → Each (λ (x : SectionInFile). (headers_end (length gs) ≤ x.offset) × (end_in_file x ≤ loaded_end gs)) xs
        → Each (λ (x : SectionInFile). (0 ≤ x.offset) × (x.offset + x.section.size ≤ loaded_end gs)) xs
    from_0 [] h = tt
    from_0 (x ∷ xs) h = ((omega arith, h.0.1), from_0 xs h.1)

-- ---- of a link

module _ (l : GoodLink) (good : IsGood l) where
  abbrev range_length : LinkedPiece → ℕ
  range_length x = x.range.length

  all_ranges : sum_by range_length (link_pieces l)
      ≡ sum_by (λ (q : PlacedOutput). sum_by (λ (u : PlacedPiece).
      (range_in (segments l.layout.sections) q u).length) q.pieces) l.layout.sections
  unfolding linked_pieces
  all_ranges = go l.layout.sections
    where
      go : (qs : List PlacedOutput)
          → sum_by range_length
          (flat_map (λ (q : PlacedOutput). map (linked_piece l.project (segments l.layout.sections) q) q.pieces) qs)
          ≡ sum_by (λ (q : PlacedOutput). sum_by (λ (u : PlacedPiece).
          (range_in (segments l.layout.sections) q u).length) q.pieces) qs
      go [] = refl
      go (q ∷ qs) =
          sum_by-append range_length (map (linked_piece l.project (segments l.layout.sections) q) q.pieces)
          (flat_map (λ (r : PlacedOutput). map (linked_piece l.project (segments l.layout.sections) r) r.pieces) qs)
          ∙ ap (λ n. n + sum_by range_length
          (flat_map (λ (r : PlacedOutput). map (linked_piece l.project (segments l.layout.sections) r) r.pieces) qs))
          (sum_mapped range_length (linked_piece l.project (segments l.layout.sections) q) q.pieces)
          ∙ ap (λ n. sum_by (λ (u : PlacedPiece).
          (range_in (segments l.layout.sections) q u).length) q.pieces + n) (go qs)
          ∙ sym (sum_by-cons (λ (r : PlacedOutput). sum_by (λ (u : PlacedPiece).
          (range_in (segments l.layout.sections) r u).length) r.pieces) q qs)

  pub bytes_in_image : sum_by range_length (link_pieces l) ≤ image_length l.project l.layout
  bytes_in_image =
      let all = all_ranges in
      let sections = sum_below (λ (q : PlacedOutput). sum_by (λ (u : PlacedPiece).
      (range_in (segments l.layout.sections) q u).length) q.pieces) file_size_of l.layout.sections
      (λ q c. ranges_below (segments l.layout.sections) q (member_of IsSpread l.layout.sections q good.spread c)) in
      let files = files_below l.layout.sections in
      let loaded = loaded_in_image l.project l.layout in
      omega (arith, all, sections, files, loaded)

pub stayed_in_image : (old new : GoodLink) → IsGood new → bytes_stayed old new ≤ image_length new.project new.layout
unfolding stayed
stayed_in_image old new good =
    let kept = sum_kept (λ (x : LinkedPiece). x.range.length) (has_stayed old) (link_pieces new) in
    let all = bytes_in_image new good in
    omega (arith, kept, all)
