-- How many bytes a drawing writes that keeps nothing but what stayed: all that the image has besides.
use Rattle.emit_image.proofs.Common.{AllZip, Bool, Drawing, EachPiece, FileRange, GoodLink, HasStayed, ImagePart}
use Rattle.emit_image.proofs.Common.{ImagePiece, ImageSection, IsDrawing, IsDrawingOf, IsGood, IsImagePiece}
use Rattle.emit_image.proofs.Common.{IsImageSection, IsMarkedIfStayed, List, None, Option, PlacedOutput, PlacedPiece}
use Rattle.emit_image.proofs.Common.{SectionInFile, Some, Spot, [], ap, arith, bytes_stayed, cond, count_unstayed}
use Rattle.emit_image.proofs.Common.{covers, covers_data, covers_part, covers_piece, covers_section, drawing_end}
use Rattle.emit_image.proofs.Common.{drawing_spot, false, file_offset, filter, find, image_length, in_file, length}
use Rattle.emit_image.proofs.Common.{linked_in, loaded, map, min, nat_lt, nat_tests, nonempty, not, range_in, refl}
use Rattle.emit_image.proofs.Common.{section_spot, segments, slice_index, spot_among, spot_past_headers, suc, sum_by}
use Rattle.emit_image.proofs.Common.{sum_by-cons, sym, true, zero, ℕ, ◌&&◌, ◌+◌, ◌-◌, ◌<◌, ◌==◌, ◌∙◌, ◌∷◌, ◌≡◌, ◌≤◌}
use Rattle.ldmodel.specs.declared.placed.PlacedData.{PlacedData}
use Rattle.emit_image.proofs.Members.{zip_both}
use Rattle.emit_image.proofs.OfLink.{end-same}
use Rattle.emit_image.proofs.Sparing.{all_spared, by_loaded, counted, kept_bytes, kept_size, stayed_in}

-- ---- numbers that pass a test

abbrev bit : Bool → ℕ
bit b = cond b 1 0

-- how many of the first n numbers pass
abbrev passing : (ℕ → Bool) → ℕ → ℕ
passing test zero = 0
passing test (suc n) = passing test n + bit (test n)

-- numbers of a range alone
in_range : (test : ℕ → Bool) (a s : ℕ) → ((o : ℕ) → test o ≡ true → (a ≤ o) × (o < a + s)) → (n : ℕ)
    → passing test n + min n a ≤ min n (a + s)
in_range test a s h zero = omega arith
in_range test a s h (suc n) = go (test n) refl (in_range test a s h n)
  where
    go : (b : Bool) → test n ≡ b → passing test n + min n a ≤ min n (a + s)
        → passing test n + bit b + min (suc n) a ≤ min (suc n) (a + s)
    go true e rest = let at = h n e in omega (arith, rest, at.0, at.1)
    go false e rest = omega (arith, rest)

few_passing : (test : ℕ → Bool) (a s : ℕ) → ((o : ℕ) → test o ≡ true → (a ≤ o) × (o < a + s)) → (n : ℕ)
    → passing test n ≤ s
few_passing test a s h n = let most = in_range test a s h n in omega (arith, most)

-- ---- sums

sum_plus : {X : Type 0} (f g : X → ℕ) (xs : List X) → sum_by (λ x. f x + g x) xs ≡ sum_by f xs + sum_by g xs
sum_plus f g [] = omega arith
sum_plus f g (x ∷ xs) =
    let both = sum_by-cons (λ z. f z + g z) x xs in
    let left = sum_by-cons f x xs in
    let right = sum_by-cons g x xs in
    let rest = sum_plus f g xs in
    omega (arith, both, left, right, rest)

sum_most : {X : Type 0} (f g : X → ℕ) → ((x : X) → f x ≤ g x) → (xs : List X) → sum_by f xs ≤ sum_by g xs
sum_most f g h [] = omega arith
sum_most f g h (x ∷ xs) =
    let own = h x in
    let left = sum_by-cons f x xs in
    let right = sum_by-cons g x xs in
    let rest = sum_most f g h xs in
    omega (arith, own, left, right, rest)

-- one that is found counts
sum_found : {X : Type 0} (test : X → Bool) (f : X → ℕ) (xs : List X) (y : X) → find test xs ≡ Some y
    → (test y ≡ true → 1 ≤ f y) → 1 ≤ sum_by f xs
sum_found test f [] y e h = absurd (let none : ⊥ = cc in none)
sum_found {X} test f (x ∷ xs) y e h = go (test x) refl e (λ k. sum_found test f xs y k h)
  where
    go : (b : Bool) → test x ≡ b → cond b (Some x) (find test xs) ≡ Some y
        → (find test xs ≡ Some y → 1 ≤ sum_by f xs) → 1 ≤ sum_by f (x ∷ xs)
    go true t k later =
        let is : x ≡ y = cc in
        let some = h (sym (ap test is) ∙ t) in
        let same : f x ≡ f y = ap f is in
        let all = sum_by-cons f x xs in
        omega (arith, some, same, all)
    go false t k later =
        let rest = later k in
        let all = sum_by-cons f x xs in
        omega (arith, rest, all)

sum_zip_back : {X Y : Type 0} (R : X → Y → Type 0) (f : X → ℕ) (g : Y → ℕ) → ((x : X) (y : Y) → R x y → g y ≤ f x)
    → (xs : List X) (ys : List Y) → AllZip R xs ys → sum_by g ys ≤ sum_by f xs
sum_zip_back R f g low [] [] h = omega arith
sum_zip_back R f g low [] (y ∷ ys) h = absurd h
sum_zip_back R f g low (x ∷ xs) [] h = absurd h
sum_zip_back R f g low (x ∷ xs) (y ∷ ys) h =
    let own = low x y h.0 in
    let rest = sum_zip_back R f g low xs ys h.1 in
    let left = sum_by-cons f x xs in
    let right = sum_by-cons g y ys in
    omega (arith, own, rest, left, right)

-- what a filter keeps passes its test
zip_filtered : {X Y : Type 0} (R : X → Y → Type 0) (p : X → Bool) (xs : List X) (ys : List Y)
    → AllZip R (filter p xs) ys → AllZip (λ x y. (p x ≡ true) × R x y) (filter p xs) ys
zip_filtered R p [] [] h = tt
zip_filtered R p [] (y ∷ ys) h = absurd h
zip_filtered {X} {Y} R p (x ∷ xs) ys h = go (p x) refl ys h (λ zs k. zip_filtered R p xs zs k)
  where
    go : (b : Bool) → p x ≡ b → (zs : List Y) → AllZip R (cond b (x ∷ filter p xs) (filter p xs)) zs
        → ((us : List Y) → AllZip R (filter p xs) us → AllZip (λ x y. (p x ≡ true) × R x y) (filter p xs) us)
        → AllZip (λ x y. (p x ≡ true) × R x y) (cond b (x ∷ filter p xs) (filter p xs)) zs
    go true e [] k rest = absurd k
    go true e (z ∷ zs) k rest = ((e, k.0), rest zs k.1)
    go false e zs k rest = rest zs k

-- ---- bytes of input sections that are kept

-- a byte of the image is of an input section that is kept
abbrev is_kept_at : ImageSection → ImagePiece → ℕ → Bool
is_kept_at y v o = v.stays && (covers_section o y && covers_piece (y.start + (o - y.offset)) v)

and_first : (a b : Bool) → (a && b) ≡ true → a ≡ true
and_first true b h = refl
and_first false b h = cc

and_second : (a b : Bool) → (a && b) ≡ true → b ≡ true
and_second true b h = h
and_second false b h = cc

both_hold : (a b : Bool) → a ≡ true → b ≡ true → (a && b) ≡ true
both_hold true b h k = k
both_hold false b h k = cc

from_below : (s n a : ℕ) → covers s n a ≡ true → (s ≤ a) × (a < s + n)
from_below s n a h =
    let low : s ≤ a = grind (arith, nat_tests) in
    let high : a < s + n = grind (arith, nat_tests) in
    (low, high)

few_kept : (y : ImageSection) (v : ImagePiece) (n : ℕ) → passing (is_kept_at y v) n ≤ kept_size v
few_kept y v n = go v.stays refl
  where
    covered_at : (o : ℕ) → is_kept_at y v o ≡ true
        → (y.offset + (v.start - y.start) ≤ o) × (o < y.offset + (v.start - y.start) + v.size)
    covered_at o h =
        let rest = and_second v.stays _ h in
        let section = from_below y.offset y.size o (and_first (covers_section o y) _ rest) in
        let piece = from_below v.start v.size (y.start + (o - y.offset)) (and_second (covers_section o y) _ rest) in
        let low : y.offset + (v.start - y.start) ≤ o = omega (arith, section.0, piece.0, piece.1) in
        let high : o < y.offset + (v.start - y.start) + v.size = omega (arith, section.0, piece.0, piece.1) in
        (low, high)

    go : (b : Bool) → v.stays ≡ b → passing (is_kept_at y v) n ≤ cond b v.size 0
    go true e = few_passing (is_kept_at y v) (y.offset + (v.start - y.start)) v.size covered_at n
    go false e =
        few_passing (is_kept_at y v) 0 0 (λ o h.
        absurd (let no : false ≡ true = sym e ∙ and_first v.stays _ h in let none : ⊥ = cc in none)) n

module _ (d : Drawing) where
  abbrev kept_below : ℕ → ImageSection → ℕ
  kept_below n y = sum_by (λ v. passing (is_kept_at y v) n) y.pieces.now

  abbrev kept_at : ℕ → ImageSection → ℕ
  kept_at o y = sum_by (λ v. bit (is_kept_at y v o)) y.pieces.now

  all_below : ℕ → ℕ
  all_below n = sum_by (kept_below n) d.sections.now

  all_at : ℕ → ℕ
  all_at o = sum_by (kept_at o) d.sections.now

  one_more : (n : ℕ) → all_below (suc n) ≡ all_below n + all_at n
  unfolding all_below all_at
  one_more n = each d.sections.now
    where
      each : (ys : List ImageSection) → sum_by (kept_below (suc n)) ys ≡ sum_by (kept_below n) ys + sum_by (kept_at n)
          ys
      each [] = omega arith
      each (y ∷ ys) =
          let own = sum_plus (λ v. passing (is_kept_at y v) n) (λ v. bit (is_kept_at y v n)) y.pieces.now in
          let both = sum_by-cons (kept_below (suc n)) y ys in
          let left = sum_by-cons (kept_below n) y ys in
          let right = sum_by-cons (kept_at n) y ys in
          let rest = each ys in
          omega (arith, own, both, left, right, rest)

  -- a byte that stays is of an input section that is kept
  in_section : (o : ℕ) (y : ImageSection) → covers_section o y ≡ true
      → (section_spot y (y.start + (o - y.offset))).stays ≡ true → 1 ≤ kept_at o y
  unfolding section_spot
  in_section o y here =
      go (find (covers_piece (y.start + (o - y.offset))) y.pieces.now) refl
      (find (covers_data (y.start + (o - y.offset))) y.data_commands.now)
    where
      go : (m : Option ImagePiece) → find (covers_piece (y.start + (o - y.offset))) y.pieces.now ≡ m
          → (k : Option PlacedData) → (spot_among y (y.start + (o - y.offset)) m k).stays ≡ true → 1 ≤ kept_at o y
      go None e None h = absurd (let none : ⊥ = cc in none)
      go None e (Some c) h = absurd (let none : ⊥ = cc in none)
      go (Some v) e k h =
          sum_found (covers_piece (y.start + (o - y.offset))) (λ v. bit (is_kept_at y v o)) y.pieces.now v e (λ t.
          let all : is_kept_at y v o ≡ true = both_hold v.stays _ h (both_hold (covers_section o y) _ here t) in
          let one : bit (is_kept_at y v o) ≡ 1 = ap bit all in
          omega (arith, one))

  found_in : (o : ℕ) → (m : Option ImageSection) → find (covers_section o) d.sections.now ≡ m → (k : Option ImagePart)
      → (spot_past_headers o m k).stays ≡ true → 1 ≤ all_at o
  unfolding all_at
  found_in o None e None h = absurd (let none : ⊥ = cc in none)
  found_in o None e (Some t) h = absurd (let none : ⊥ = cc in none)
  found_in o (Some y) e k h =
      sum_found (covers_section o) (kept_at o) d.sections.now y e (λ t. in_section o y t h)

  stays_in : (o : ℕ) → (drawing_spot d o).stays ≡ true → 1 ≤ all_at o
  unfolding drawing_spot
  stays_in o = go (nat_lt o (length d.headers.now))
    where
      own : Spot
      own = record { byte = slice_index d.headers.now o; stays = false }

      go : (b : Bool)
          → (cond b own (spot_past_headers o (find (covers_section o) d.sections.now)
          (find (covers_part o) d.tail.now))).stays ≡ true → 1 ≤ all_at o
      go true h = absurd (let none : ⊥ = cc in none)
      go false h = found_in o (find (covers_section o) d.sections.now) refl (find (covers_part o) d.tail.now) h

  least_below : (n : ℕ) → n ≤ count_unstayed (drawing_spot d) n + all_below n
  least_below zero = omega arith
  least_below (suc n) = go (drawing_spot d n).stays refl (least_below n)
    where
      go : (b : Bool) → (drawing_spot d n).stays ≡ b → n ≤ count_unstayed (drawing_spot d) n + all_below n
          → suc n ≤ count_unstayed (drawing_spot d) n + cond b 0 1 + all_below (suc n)
      go true e rest =
          let more = one_more n in
          let one = stays_in n e in
          omega (arith, rest, more, one)
      go false e rest = let more = one_more n in omega (arith, rest, more)

  most_below : (n : ℕ) → all_below n ≤ sum_by kept_bytes d.sections.now
  unfolding all_below
  most_below n =
      sum_most (kept_below n) kept_bytes (λ y.
      sum_most (λ v. passing (is_kept_at y v) n) kept_size (λ v. few_kept y v n) y.pieces.now) d.sections.now

  pub least_drawn : drawing_end d ≤ count_unstayed (drawing_spot d) (drawing_end d) + sum_by kept_bytes d.sections.now
  least_drawn =
      let low = least_below (drawing_end d) in
      let high = most_below (drawing_end d) in
      omega (arith, low, high)

-- ---- of two links

module _ (old new : GoodLink) (all_in_file : (sections : List PlacedOutput)
    → map (λ (x : SectionInFile). x.section) (in_file (segments sections)) ≡ nonempty sections)
    (good : IsGood new) where
  -- an input section that is kept stayed, with all its bytes
  piece_stayed : (q : PlacedOutput) (u : PlacedPiece) (v : ImagePiece) → q.has_file_bytes ≡ true
      → IsImagePiece new.project new.layout u v × HasStayed old new q u v
      → kept_size v ≤ counted old new (linked_in new q u)
  piece_stayed q u v bytes h = go v.stays refl
    where
      own : FileRange
      own = record {
        offset = file_offset (segments new.layout.sections) q + (u.start - q.start);
        length = u.piece.size;
      }

      none : FileRange
      none = record { offset = 0; length = 0 }

      full : (b : Bool) → (u.piece.size == 0) ≡ b → u.piece.size ≤ (cond (not b) own none).length
      full true e = let empty : u.piece.size ≡ 0 = grind (arith, nat_tests) in omega (arith, empty)
      full false e = omega arith

      range : u.piece.size ≤ (range_in (segments new.layout.sections) q u).length
      range =
          let is : (range_in (segments new.layout.sections) q u).length ≡
          (cond (not (u.piece.size == 0)) own none).length =
          ap (λ b. (cond (b && not (u.piece.size == 0)) own none).length) bytes in
          let at = full (u.piece.size == 0) refl in
          omega (arith, is, at)

      go : (b : Bool) → v.stays ≡ b → cond b v.size 0 ≤ counted old new (linked_in new q u)
      go false e = omega arith
      go true e =
          let same : counted old new (linked_in new q u) ≡ (range_in (segments new.layout.sections) q u).length =
          ap (λ b. cond b (range_in (segments new.layout.sections) q u).length 0) (h.1 e) in
          omega (arith, same, range, h.0.size)

  section_stayed : (x : SectionInFile) (y : ImageSection) → (x.section.has_file_bytes ≡ true)
      × (IsImageSection new.project new.layout x y × AllZip (HasStayed old new x.section) x.section.pieces y.pieces.now)
      → kept_bytes y ≤ stayed_in old new x.section
  section_stayed x y h =
      sum_zip_back (λ u v. IsImagePiece new.project new.layout u v × HasStayed old new x.section u v)
      (λ u. counted old new (linked_in new x.section u)) kept_size (λ u v k. piece_stayed x.section u v h.0 k)
      x.section.pieces y.pieces.now
      (zip_both (IsImagePiece new.project new.layout) (HasStayed old new x.section) x.section.pieces y.pieces.now
      h.1.0.pieces h.1.1)

  pub unstayed_is : (d : Drawing) → IsDrawing d → IsDrawingOf new.project new.layout d
      → EachPiece (IsMarkedIfStayed old new) new.layout d → EachPiece (HasStayed old new) new.layout d
      → count_unstayed (drawing_spot d) (drawing_end d)
      ≡ image_length new.project new.layout - bytes_stayed old new
  unstayed_is d h is kept stayed =
      let most = all_spared old new all_in_file good d h is kept in
      let least = least_drawn d in
      let end = end-same new.project new.layout d is in
      let few = sum_zip_back (λ x y. (x.section.has_file_bytes ≡ true)
      × (IsImageSection new.project new.layout x y × AllZip (HasStayed old new x.section) x.section.pieces
      y.pieces.now))
      (λ (x : SectionInFile). stayed_in old new x.section) kept_bytes section_stayed (loaded new.layout) d.sections.now
      (zip_filtered (λ x y. IsImageSection new.project new.layout x y
      × AllZip (HasStayed old new x.section) x.section.pieces y.pieces.now)
      (λ (x : SectionInFile). x.section.has_file_bytes) (in_file (segments new.layout.sections)) d.sections.now
      (zip_both (IsImageSection new.project new.layout) (λ x y.
      AllZip (HasStayed old new x.section) x.section.pieces y.pieces.now) (loaded new.layout) d.sections.now
      is.sections stayed)) in
      let all = by_loaded old new all_in_file good in
      omega (arith, most, least, end, few, all)
