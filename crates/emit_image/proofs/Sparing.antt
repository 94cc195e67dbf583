-- How many bytes a drawing that keeps what stayed leaves unwritten.
use Rattle.emit_image.proofs.Common.{AllZip, AreParts, ArePieces, AreSections, Bool, Contains, Drawing, Each, EachPiece}
use Rattle.emit_image.proofs.Common.{FileRange, GoodLink, ImagePart, ImagePiece, ImageSection, IsDrawing, IsDrawingOf}
use Rattle.emit_image.proofs.Common.{IsGood, IsImagePiece, IsImageSection, IsMarkedIfStayed, IsOrderly, IsSpread}
use Rattle.emit_image.proofs.Common.{Layout, List, Patch, PlacedOutput, PlacedPiece, SectionInFile, Some, Spot, [], ap}
use Rattle.emit_image.proofs.Common.{arith, bytes_stayed, cond, count_unstayed, covers_data, covers_piece}
use Rattle.emit_image.proofs.Common.{covers_section, drawing_end, drawing_spot, end_of_parts, end_of_sections, false}
use Rattle.emit_image.proofs.Common.{file_offset, filter, find, flat_map, flat_map-cons, get_or, here, image_length}
use Rattle.emit_image.proofs.Common.{in_file, inl, later, length, linked_in, loaded, map, nat_tests, nonempty, not}
use Rattle.emit_image.proofs.Common.{part_end, patch_bytes, range_in, refl, retargeted_bytes, section_image}
use Rattle.emit_image.proofs.Common.{section_spot, segments, spot_among, subst, suc, sum_by, sum_by-append, sum_by-cons}
use Rattle.emit_image.proofs.Common.{sym, true, width, zero, ℕ, ◌&&◌, ◌+◌, ◌-◌, ◌<◌, ◌==◌, ◌∙◌, ◌∷◌, ◌≡◌, ◌≤◌}
use Rattle.std.proofs.lemmas.List.Sorted.{sum_by-IsPermutation}
use Rattle.std.specs.List.Sorted.{IsPermutation}
use Rattle.ldmodel.specs.Segments.{Segment}
use Rattle.ldmodel.specs.Stayed.{LinkedPiece, has_stayed, linked_piece, linked_pieces, retargeted, stayed}
use Rattle.ldmodel.specs.Relocations.{Site}
use Rattle.ldmodel_laws.specs.Spread as spread
use Rattle.emit_image.specs.Drawing.{piece_end}
use Rattle.emit_image.proofs.Found.{covered, find-at, not_covered}
use Rattle.emit_image.proofs.InDrawing.{in_section, sections-order}
use Rattle.emit_image.proofs.InSection.{pieces-end, pieces-order}
use Rattle.emit_image.proofs.Members.{zip_both}
use Rattle.emit_image.proofs.OfLink.{end-same}
use Rattle.emit_image.proofs.Unstayed.{run, unless}

-- ---- of the bytes from one offset up to another n at least stay

abbrev Spared : (ℕ → Spot) → ℕ → ℕ → ℕ → Type 0
Spared f from to n = (from ≤ to) × (count_unstayed f to + n + from ≤ count_unstayed f from + to)

at_most : (f : ℕ → Spot) (from n : ℕ) → count_unstayed f (from + n) ≤ count_unstayed f from + n
at_most f from zero =
    let e : count_unstayed f (from + 0) ≡ count_unstayed f from = ap (count_unstayed f)
    (let z : from + 0 ≡ from = omega arith in z) in
    omega (arith, e)
at_most f from (suc n) =
    let rest = at_most f from n in
    let e : count_unstayed f (from + suc n) ≡ count_unstayed f (suc (from + n)) = ap (count_unstayed f)
    (let z : from + suc n ≡ suc (from + n) = omega arith in z) in
    let one : cond ((f (from + n)).stays) 0 1 ≤ 1 = low ((f (from + n)).stays) in
    omega (arith, rest, e, one)
  where
    low : (b : Bool) → cond b 0 1 ≤ 1
    low true = omega arith
    low false = omega arith

spared_none : (f : ℕ → Spot) (from to : ℕ) → from ≤ to → Spared f from to 0
spared_none f from to l =
    let most = at_most f from (to - from) in
    let e : count_unstayed f (from + (to - from)) ≡ count_unstayed f to = ap (count_unstayed f)
    (let z : from + (to - from) ≡ to = omega (arith, l) in z) in
    (l, omega (arith, most, e, l))

spared_run : (f : ℕ → Spot) (from n : ℕ) (b : Bool) → ((o : ℕ) → from ≤ o → o < from + n → (f o).stays ≡ b)
    → Spared f from (from + n) (cond b n 0)
spared_run f from n b h = (omega arith, go b (run f from n b h))
  where
    go : (c : Bool) → count_unstayed f (from + n) ≡ count_unstayed f from + unless c n
        → count_unstayed f (from + n) + cond c n 0 + from ≤ count_unstayed f from + (from + n)
    go true e = omega (arith, e)
    go false e = omega (arith, e)

-- none before them
spared_after : (f : ℕ → Spot) (from mid to n : ℕ) → from ≤ mid → Spared f mid to n → Spared f from to n
spared_after f from mid to n l k =
    let gap = spared_none f from mid l in
    (omega (arith, l, k.0), omega (arith, gap.1, k.1))

spared_then : (f : ℕ → Spot) (from mid to m n : ℕ) → Spared f from mid m → Spared f mid to n
    → Spared f from to (m + n)
spared_then f from mid to m n h k = (omega (arith, h.0, k.0), omega (arith, h.1, k.1))

-- ---- of an output section as it is drawn

abbrev pub kept_size : ImagePiece → ℕ
kept_size v = cond v.stays v.size 0

abbrev pub kept_bytes : ImageSection → ℕ
kept_bytes y = sum_by kept_size y.pieces.now

module _ (y : ImageSection) (orderly : IsOrderly y) where
  piece_spot : (v : ImagePiece) (at : ℕ) → Contains y.pieces.now v → v.start ≤ at → at < piece_end v
      → (section_spot y at).stays ≡ v.stays
  unfolding section_spot
  piece_spot v at c low high =
      let k : ℕ = c.0 in
      let found : find (covers_piece at) y.pieces.now ≡ Some v =
      find-at (covers_piece at) y.pieces.now k v c.1 (λ i w l n.
      not_covered ((get_or y.pieces.now i w).start) ((get_or y.pieces.now i w).size) at (λ some.
      inl (let before : piece_end (get_or y.pieces.now i w) ≤ (get_or y.pieces.now k v).start =
      pieces-order y.start (y.start + y.size) y.pieces.now i k w v orderly.pieces l c.1 in
      let is : (get_or y.pieces.now k v).start ≡ v.start = ap (λ (t : ImagePiece). t.start) c.2 in
      omega (arith, before, is, low))))
      (subst (λ (t : ImagePiece). covers_piece at t ≡ true) (sym c.2) (covered v.start v.size at low high))
      ∙ ap Some c.2 in
      ap (λ m. (spot_among y at m (find (covers_data at) y.data_commands.now)).stays) found

  module _ (f : ℕ → Spot) (same : (o : ℕ) → y.offset ≤ o → o < y.offset + y.size → f o ≡ section_image y o) where
    abbrev place : ℕ → ℕ
    place at = y.offset + (at - y.start)

    piece_spared : (v : ImagePiece) → Contains y.pieces.now v → y.start ≤ v.start → piece_end v ≤ y.start + y.size
        → Spared f (place v.start) (place (piece_end v)) (kept_size v)
    piece_spared v c low high =
        let end : place v.start + v.size ≡ place (piece_end v) = omega (arith, low) in
        subst (λ n. Spared f (place v.start) n (kept_size v)) end
        (spared_run f (place v.start) v.size v.stays (λ o a b.
        let at : ℕ = y.start + (o - y.offset) in
        ap (λ (t : Spot). t.stays) (same o (omega (arith, a)) (omega (arith, b, low, high)))
        ∙ piece_spot v at c (omega (arith, a, low)) (omega (arith, a, b, low))))

    pieces_spared : (from : ℕ) (vs : List ImagePiece) → y.start ≤ from
        → ((v : ImagePiece) → Contains vs v → Contains y.pieces.now v) → ArePieces from (y.start + y.size) vs
        → Spared f (place from) (place (y.start + y.size)) (sum_by kept_size vs)
    pieces_spared from [] low among h = spared_none f (place from) (place (y.start + y.size)) (omega (arith, low, h))
    pieces_spared from (v ∷ vs) low among h =
        let high = pieces-end (piece_end v) (y.start + y.size) vs h.1 in
        let own = piece_spared v (among v (here v vs)) (omega (arith, low, h.0)) high in
        let rest = pieces_spared (piece_end v) vs (omega (arith, low, h.0)) (λ w c. among w (later v vs w c)) h.1 in
        subst (Spared f (place from) (place (y.start + y.size))) (sym (sum_by-cons kept_size v vs))
        (spared_then f (place from) (place (piece_end v)) (place (y.start + y.size)) (kept_size v)
        (sum_by kept_size vs)
        (spared_after f (place from) (place v.start) (place (piece_end v)) (kept_size v) (omega (arith, low, h.0)) own)
        rest)

    section_spared : Spared f y.offset (y.offset + y.size) (kept_bytes y)
    section_spared =
        let first : place y.start ≡ y.offset = omega arith in
        let last : place (y.start + y.size) ≡ y.offset + y.size = omega arith in
        subst (λ n. Spared f n (y.offset + y.size) (kept_bytes y)) first
        (subst (λ n. Spared f (place y.start) n (kept_bytes y)) last
        (pieces_spared y.start y.pieces.now (omega arith) (λ v c. c) orderly.pieces))

-- ---- of a drawing

parts_end : (from : ℕ) (ts : List ImagePart) → AreParts from ts → from ≤ end_of_parts from ts
parts_end from [] h = omega arith
parts_end from (t ∷ ts) h = let rest = parts_end (part_end t) ts h.2 in omega (arith, h.0, rest)

module _ (d : Drawing) (h : IsDrawing d) where
  abbrev front : ℕ
  front = length d.headers.now

  in_place : (y : ImageSection) (o : ℕ) → Contains d.sections.now y → front ≤ o → y.offset ≤ o
      → o < y.offset + y.size → drawing_spot d o ≡ section_image y o
  in_place y o c past low high =
      let k : ℕ = c.0 in
      in_section d o y past
      (find-at (covers_section o) d.sections.now k y c.1 (λ i w l n.
      not_covered ((get_or d.sections.now i w).offset) ((get_or d.sections.now i w).size) o (λ some.
      inl (let before : (get_or d.sections.now i w).offset + (get_or d.sections.now i w).size
      ≤ (get_or d.sections.now k y).offset = sections-order front d.sections.now i k w y h.sections l c.1 in
      let is : (get_or d.sections.now k y).offset ≡ y.offset = ap (λ (t : ImageSection). t.offset) c.2 in
      omega (arith, before, is, low))))
      (subst (λ (t : ImageSection). covers_section o t ≡ true) (sym c.2) (covered y.offset y.size o low high))
      ∙ ap Some c.2)

  sections_spared : (from : ℕ) (ys : List ImageSection) → front ≤ from
      → ((y : ImageSection) → Contains ys y → Contains d.sections.now y) → AreSections from ys
      → Spared (drawing_spot d) from (end_of_sections from ys) (sum_by kept_bytes ys)
  sections_spared from [] past among a = spared_none (drawing_spot d) from from (omega arith)
  sections_spared from (y ∷ ys) past among a =
      let own = section_spared y a.1 (drawing_spot d) (λ o l m.
      in_place y o (among y (here y ys)) (omega (arith, past, a.0, l)) l m) in
      let rest = sections_spared (y.offset + y.size) ys (omega (arith, past, a.0)) (λ w c.
      among w (later y ys w c)) a.2 in
      subst (Spared (drawing_spot d) from (end_of_sections (y.offset + y.size) ys))
      (sym (sum_by-cons kept_bytes y ys))
      (spared_then (drawing_spot d) from (y.offset + y.size) (end_of_sections (y.offset + y.size) ys) (kept_bytes y)
      (sum_by kept_bytes ys)
      (spared_after (drawing_spot d) from y.offset (y.offset + y.size) (kept_bytes y) a.0 own) rest)

  drawing_spared : count_unstayed (drawing_spot d) (drawing_end d) + sum_by kept_bytes d.sections.now ≤ drawing_end d
  drawing_spared =
      let sections = sections_spared front d.sections.now (omega arith) (λ y c. c) h.sections in
      let tail = spared_none (drawing_spot d) (end_of_sections front d.sections.now) (drawing_end d)
      (parts_end (end_of_sections front d.sections.now) d.tail.now h.tail) in
      let headers = spared_none (drawing_spot d) 0 front (omega arith) in
      omega (arith, sections.1, tail.1, headers.1)

-- ---- sums

sum_filter : {X : Type 0} (g : X → ℕ) (test : X → Bool) (xs : List X) → sum_by g (filter test xs)
    ≡ sum_by (λ x. cond (test x) (g x) 0) xs
sum_filter g test [] = refl
sum_filter {X} g test (x ∷ xs) =
    go (test x) (sum_filter g test xs) ∙ sym (sum_by-cons (λ z. cond (test z) (g z) 0) x xs)
  where
    go : (b : Bool) → sum_by g (filter test xs) ≡ sum_by (λ z. cond (test z) (g z) 0) xs
        → sum_by g (cond b (x ∷ filter test xs) (filter test xs))
        ≡ cond b (g x) 0 + sum_by (λ z. cond (test z) (g z) 0) xs
    go true e = sum_by-cons g x (filter test xs) ∙ ap (λ n. g x + n) e
    go false e = omega (arith, e)

sum_map : {X Y : Type 0} (g : Y → ℕ) (f : X → Y) (xs : List X) → sum_by g (map f xs) ≡ sum_by (λ x. g (f x)) xs
sum_map g f [] = refl
sum_map g f (x ∷ xs) =
    sum_by-cons g (f x) (map f xs) ∙ ap (λ n. g (f x) + n) (sum_map g f xs) ∙ sym (sum_by-cons (λ z. g (f z)) x xs)

sum_joined : {X Y : Type 0} (g : Y → ℕ) (f : X → List Y) (xs : List X) → sum_by g (flat_map f xs)
    ≡ sum_by (λ x. sum_by g (f x)) xs
sum_joined g f [] = refl
sum_joined g f (x ∷ xs) =
    ap (sum_by g) (flat_map-cons f x xs) ∙ sum_by-append g (f x) (flat_map f xs)
    ∙ ap (λ n. sum_by g (f x) + n) (sum_joined g f xs) ∙ sym (sum_by-cons (λ z. sum_by g (f z)) x xs)

-- what a test lets out adds nothing
sum_passing : {X : Type 0} (g : X → ℕ) (test : X → Bool) (xs : List X)
    → Each (λ x. test x ≡ false → g x ≡ 0) xs → sum_by g xs ≡ sum_by g (filter test xs)
sum_passing g test [] h = refl
sum_passing {X} g test (x ∷ xs) h = sum_by-cons g x xs ∙ go (test x) refl (sum_passing g test xs h.1)
  where
    go : (b : Bool) → test x ≡ b → sum_by g xs ≡ sum_by g (filter test xs) → g x + sum_by g xs
        ≡ sum_by g (cond b (x ∷ filter test xs) (filter test xs))
    go true t e = ap (λ n. g x + n) e ∙ sym (sum_by-cons g x (filter test xs))
    go false t e = (let none = h.0 t in omega (arith, none, e))

sum_zip : {X Y : Type 0} (R : X → Y → Type 0) (f : X → ℕ) (g : Y → ℕ) → ((x : X) (y : Y) → R x y → f x ≤ g y)
    → (xs : List X) (ys : List Y) → AllZip R xs ys → sum_by f xs ≤ sum_by g ys
sum_zip R f g low [] [] h = omega arith
sum_zip R f g low [] (y ∷ ys) h = absurd h
sum_zip R f g low (x ∷ xs) [] h = absurd h
sum_zip R f g low (x ∷ xs) (y ∷ ys) h =
    let own = low x y h.0 in
    let rest = sum_zip R f g low xs ys h.1 in
    let left = sum_by-cons f x xs in
    let right = sum_by-cons g y ys in
    omega (arith, own, rest, left, right)

sum_zero : {X : Type 0} (g : X → ℕ) (xs : List X) → Each (λ x. g x ≡ 0) xs → sum_by g xs ≡ 0
sum_zero g [] h = refl
sum_zero g (x ∷ xs) h =
    let own = h.0 in
    let rest = sum_zero g xs h.1 in
    let all = sum_by-cons g x xs in
    omega (arith, own, rest, all)

each_is : {X : Type 0} (P : X → Type 0) → ((x : X) → P x) → (xs : List X) → Each P xs
each_is P f [] = tt
each_is P f (x ∷ xs) = (f x, each_is P f xs)

each_implies : {X : Type 0} (P Q : X → Type 0) → ((x : X) → P x → Q x) → (xs : List X) → Each P xs → Each Q xs
each_implies P Q f [] h = tt
each_implies P Q f (x ∷ xs) h = (f x h.0, each_implies P Q f xs h.1)

-- ---- of two links

abbrev field_width : Site → ℕ
field_width t = width t.relocation.kind

patches_wide : (sites : List Site) (patches : List Patch)
    → AllZip (λ (t : Site) (q : Patch). length q.field ≡ width t.relocation.kind) sites patches
    → sum_by (λ (q : Patch). length q.field) patches ≡ sum_by field_width sites
patches_wide [] [] h = refl
patches_wide [] (q ∷ qs) h = absurd h
patches_wide (t ∷ ts) [] h = absurd h
patches_wide (t ∷ ts) (q ∷ qs) h =
    let own = h.0 in
    let rest = patches_wide ts qs h.1 in
    let left = sum_by-cons (λ (q : Patch). length q.field) q qs in
    let right = sum_by-cons field_width t ts in
    omega (arith, own, rest, left, right)

pub all_patches : (old new : GoodLink) (sites : List Site) (patches : List Patch)
    → IsPermutation sites (retargeted old new)
    → AllZip (λ (t : Site) (q : Patch). length q.field ≡ width t.relocation.kind) sites patches
    → patch_bytes patches ≡ retargeted_bytes old new
all_patches old new sites patches p z =
    patches_wide sites patches z ∙ sym (sum_by-IsPermutation field_width sites (retargeted old new) p)

module _ (old new : GoodLink) where
  abbrev pub s : Layout
  s = new.layout

  abbrev pub gs : List Segment
  gs = segments s.sections

  abbrev pub counted : LinkedPiece → ℕ
  counted x = cond (has_stayed old x) x.range.length 0

  -- the bytes of those of an output section that stayed
  abbrev pub stayed_in : PlacedOutput → ℕ
  stayed_in q = sum_by (λ u. counted (linked_in new q u)) q.pieces

  by_section : bytes_stayed old new ≡ sum_by stayed_in s.sections
  unfolding stayed linked_pieces
  by_section =
      sum_filter (λ (x : LinkedPiece). x.range.length) (has_stayed old)
      (flat_map (λ (q : PlacedOutput). map (linked_piece new.project gs q) q.pieces) s.sections)
      ∙ sum_joined counted (λ (q : PlacedOutput). map (linked_piece new.project gs q) q.pieces) s.sections
      ∙ mapped s.sections
    where
      mapped : (qs : List PlacedOutput)
          → sum_by (λ (q : PlacedOutput). sum_by counted (map (linked_piece new.project gs q) q.pieces)) qs
          ≡ sum_by stayed_in qs
      mapped [] = refl
      mapped (q ∷ qs) =
          sum_by-cons (λ (q : PlacedOutput). sum_by counted (map (linked_piece new.project gs q) q.pieces)) q qs
          ∙ ap (λ n.
          n + sum_by (λ (q : PlacedOutput). sum_by counted (map (linked_piece new.project gs q) q.pieces)) qs)
          (sum_map counted (linked_piece new.project gs q) q.pieces)
          ∙ ap (λ n. stayed_in q + n) (mapped qs) ∙ sym (sum_by-cons stayed_in q qs)

  none_counted : (b : Bool) → (let n : ℕ = cond b 0 0 in n) ≡ 0
  none_counted true = refl
  none_counted false = refl

  -- an input section has as many bytes in the file as in memory, or none
  range_short : (q : PlacedOutput) (u : PlacedPiece) → (range_in gs q u).length ≤ u.piece.size
  range_short q u = go (q.has_file_bytes && not (u.piece.size == 0))
    where
      own : FileRange
      own = record { offset = file_offset gs q + (u.start - q.start); length = u.piece.size }

      none : FileRange
      none = record { offset = 0; length = 0 }

      go : (b : Bool) → (cond b own none).length ≤ u.piece.size
      go true = omega arith
      go false = omega arith

  no_length : (x : LinkedPiece) → x.range.length ≡ 0 → counted x ≡ 0
  no_length x e = ap (λ n. cond (has_stayed old x) n 0) e ∙ none_counted (has_stayed old x)

  no_bytes : (q : PlacedOutput) → q.has_file_bytes ≡ false → stayed_in q ≡ 0
  no_bytes q e =
      sum_zero (λ u. counted (linked_in new q u)) q.pieces
      (each_is (λ u. counted (linked_in new q u) ≡ 0) (λ u. no_length (linked_in new q u) (empty u)) q.pieces)
    where
      empty : (u : PlacedPiece) → (range_in gs q u).length ≡ 0
      empty u =
          let own : FileRange = record { offset = file_offset gs q + (u.start - q.start); length = u.piece.size } in
          let none : FileRange = record { offset = 0; length = 0 } in
          ap (λ b. (cond (b && not (u.piece.size == 0)) own none).length) e

  no_size : (q : PlacedOutput) → IsSpread q → not (q.size == 0) ≡ false → stayed_in q ≡ 0
  no_size q h e =
      let empty : q.size ≡ 0 = grind (arith, nat_tests) in
      sum_zero (λ u. counted (linked_in new q u)) q.pieces
      (each_implies (λ (u : PlacedPiece). (q.start ≤ u.start) × (spread.piece_end u ≤ q.start + q.size)) (λ u.
      counted (linked_in new q u) ≡ 0) (λ u k.
      let short = range_short q u in
      no_length (linked_in new q u) (omega (arith, short, k.0, k.1, empty))) q.pieces h.pieces_inside)

  module _ (all_in_file : (sections : List PlacedOutput)
      → map (λ (x : SectionInFile). x.section) (in_file (segments sections)) ≡ nonempty sections)
      (good : IsGood new) where
    pub by_loaded : bytes_stayed old new ≡ sum_by (λ (x : SectionInFile). stayed_in x.section) (loaded s)
    by_loaded =
        by_section
        ∙ sum_passing stayed_in (λ (q : PlacedOutput). not (q.size == 0)) s.sections
        (each_implies IsSpread (λ (q : PlacedOutput). not (q.size == 0) ≡ false → stayed_in q ≡ 0) no_size s.sections
        good.spread)
        ∙ ap (sum_by stayed_in) (sym (all_in_file s.sections))
        ∙ sum_map stayed_in (λ (x : SectionInFile). x.section) (in_file gs)
        ∙ sum_passing (λ (x : SectionInFile). stayed_in x.section) (λ (x : SectionInFile).
        x.section.has_file_bytes) (in_file gs)
        (each_is (λ (x : SectionInFile). x.section.has_file_bytes ≡ false → stayed_in x.section ≡ 0)
        (λ x e. no_bytes x.section e) (in_file gs))

    piece_kept : (q : PlacedOutput) (u : PlacedPiece) (v : ImagePiece)
        → IsImagePiece new.project s u v × IsMarkedIfStayed old new q u v → counted (linked_in new q u) ≤ kept_size v
    piece_kept q u v h = go (has_stayed old (linked_in new q u)) refl
      where
        go : (b : Bool) → has_stayed old (linked_in new q u) ≡ b → cond b (range_in gs q u).length 0 ≤ kept_size v
        go false e = omega arith
        go true e =
            let short = range_short q u in
            let full : kept_size v ≡ v.size = ap (λ b. cond b v.size 0) (h.1 e) in
            omega (arith, short, full, h.0.size)

    section_kept : (x : SectionInFile) (y : ImageSection)
        → IsImageSection new.project s x y × AllZip (IsMarkedIfStayed old new x.section) x.section.pieces y.pieces.now
        → stayed_in x.section ≤ kept_bytes y
    section_kept x y h =
        sum_zip (λ u v. IsImagePiece new.project s u v × IsMarkedIfStayed old new x.section u v) (λ u.
        counted (linked_in new x.section u)) kept_size (piece_kept x.section) x.section.pieces y.pieces.now
        (zip_both (IsImagePiece new.project s)
        (IsMarkedIfStayed old new x.section) x.section.pieces y.pieces.now h.0.pieces h.1)

    -- what is written, and what stayed, are no more than the image
    pub all_spared : (d : Drawing) → IsDrawing d → IsDrawingOf new.project s d
        → EachPiece (IsMarkedIfStayed old new) s d
        → count_unstayed (drawing_spot d) (drawing_end d) + bytes_stayed old new ≤ image_length new.project s
    all_spared d h is kept =
        let drawn = drawing_spared d h in
        let end = end-same new.project s d is in
        let most = sum_zip (λ x y.
        IsImageSection new.project s x y × AllZip (IsMarkedIfStayed old new x.section) x.section.pieces y.pieces.now)
        (λ (x
        : SectionInFile). stayed_in x.section) kept_bytes section_kept (loaded s) d.sections.now
        (zip_both (IsImageSection new.project s) (λ x y.
        AllZip (IsMarkedIfStayed old new x.section) x.section.pieces y.pieces.now)
        (loaded s) d.sections.now is.sections kept) in
        let all = by_loaded in
        omega (arith, drawn, end, most, all)
