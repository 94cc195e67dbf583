-- A drawing of a link's values is the link's image.
use Rattle.emit_image.proofs.Common.{All, AllZip, Bool, Byte, Drawing, FilePart, ImagePart, ImagePiece, ImageSection}
use Rattle.emit_image.proofs.Common.{IsDrawingOf, IsImageData, IsImagePart, IsImagePiece, IsImageSection, Layout, List}
use Rattle.emit_image.proofs.Common.{Long, None, Option, PlacedOutput, PlacedPiece, Project, Quad, SectionInFile, Short}
use Rattle.emit_image.proofs.Common.{Some, Spot, Width, [], ap, arith, byte_at, byte_count, cond, covering_data}
use Rattle.emit_image.proofs.Common.{covering_piece, covers, covers_data, covers_part, covers_piece, covers_section}
use Rattle.emit_image.proofs.Common.{drawing_end, drawing_spot, end_of_part, end_of_parts, end_of_sections, false}
use Rattle.emit_image.proofs.Common.{file_headers, file_section_at, fill_byte, filter, find, image_length, in_file}
use Rattle.emit_image.proofs.Common.{last_end, length, loaded, map, nat_lt, nat_tests, not, piece_byte, refl}
use Rattle.emit_image.proofs.Common.{section_spot, segments, slice_index, spot_among, spot_past_headers, subst, suc}
use Rattle.emit_image.proofs.Common.{sym, tail, tail_at, true, ℕ, ◌&&◌, ◌++◌, ◌+◌, ◌-◌, ◌<◌, ◌==◌, ◌∙◌, ◌∷◌, ◌≡◌, ◌≤◌}
use Rattle.std.proofs.lemmas.List.FromFn.{fill_by_all}
use Rattle.byteorder.specs.Endian.{little_bytes}
use Rattle.ldmodel.specs.Image as image
use Rattle.ldmodel_laws.specs.ByteCases.{byte_past_headers, output_byte, part_byte}
use Rattle.ldmodel_laws.specs.ByteCases as cases
use Rattle.ldmodel_laws.proofs.ByteCases.{by_cases}
use Rattle.ldmodel.specs.Layout as layout
use Rattle.ldmodel.specs.declared.placed.PlacedData.{PlacedData}
use Rattle.emit_image.specs.Drawing.{data_byte, data_end, ends_in, gap_byte, is_full, piece_end}
use Rattle.emit_image.specs.OfLink.{AreUnstayed}

-- what is found, if anything, has a property
abbrev FoundAll : {X : Type 0} → (X → Type 0) → Option X → Type 0
FoundAll P None = Unit {0}
FoundAll P (Some x) = P x

-- a search of two lists that go together finds two members that do, or nothing in both
pub data Both {X Y : Type 0} (R : X → Y → Type 0) (test : Y → Bool) : Option X → Option Y → Type 0 where
  neither : Both R test None None
  both : {x : X} {y : Y} → R x y → test y ≡ true → Both R test (Some x) (Some y)

go-zip : {X Y : Type 0} (R : X → Y → Type 0) (q : Y → Bool) (x : X) (y : Y) (b c : Bool) (u : Option X) (v : Option Y)
    → R x y → c ≡ b → q y ≡ c → Both R q u v → Both R q (cond b (Some x) u) (cond c (Some y) v)
go-zip R q x y true true u v r e t h = both r t
go-zip R q x y false false u v r e t h = h
go-zip R q x y true false u v r e t h = cc
go-zip R q x y false true u v r e t h = cc

pub find-zip : {X Y : Type 0} (R : X → Y → Type 0) (p : X → Bool) (q : Y → Bool)
    → ((x : X) (y : Y) → R x y → q y ≡ p x)
    → (xs : List X) (ys : List Y) → AllZip R xs ys → Both R q (find p xs) (find q ys)
find-zip R p q same [] [] h = neither
find-zip R p q same [] (y ∷ ys) h = absurd h
find-zip R p q same (x ∷ xs) [] h = absurd h
find-zip R p q same (x ∷ xs) (y ∷ ys) h =
    go-zip R q x y (p x) (q y) (find p xs) (find q ys) h.0 (same x y h.0) refl (find-zip R p q same xs ys h.1)

-- a search for what passes two tests is one among what passes the first
find-filter : {X : Type 0} (p q : X → Bool) (xs : List X) → find (λ x. p x && q x) xs ≡ find q (filter p xs)
find-filter p q [] = refl
find-filter p q (x ∷ xs) = go (p x) (find-filter p q xs)
  where
    go : (b : Bool) → find (λ x. p x && q x) xs ≡ find q (filter p xs)
        → cond (b && q x) (Some x) (find (λ x. p x && q x) xs) ≡ find q (cond b (x ∷ filter p xs) (filter p xs))
    go true e = ap (cond (q x) (Some x)) e
    go false e = e

pub data-long : (x : layout.PlacedData) (y : PlacedData) → IsImageData x y → byte_count y.width ≡ length x.bytes
data-long x y h = width-long y.width y.value ∙ ap (λ (bs : List ℕ). length bs) h.bytes
  where
    width-long : (w : Width) (v : ℕ) → byte_count w ≡ length (little_bytes (byte_count w) v)
    width-long Byte v = refl
    width-long Short v = refl
    width-long Long v = refl
    width-long Quad v = refl

pub covers-low : (n k at : ℕ) → covers n k at ≡ true → n ≤ at
covers-low n k at h = grind (arith, nat_tests)

pub covers-high : (n k at : ℕ) → covers n k at ≡ true → at < n + k
covers-high n k at h = grind (arith, nat_tests)

module _ (p : Project) (s : Layout) where
  module _ (x : SectionInFile) (y : ImageSection) (h : IsImageSection p s x y) where
    full-ends : (us : List PlacedPiece) (vs : List ImagePiece) → AllZip (IsImagePiece p s) us vs
        → map piece_end (filter is_full vs)
        ≡ map (λ (u : PlacedPiece). u.start + u.piece.size)
        (filter (λ (u : PlacedPiece). not (u.piece.size == 0)) us)
    full-ends [] [] z = refl
    full-ends [] (v ∷ vs) z = absurd z
    full-ends (u ∷ us) [] z = absurd z
    full-ends (u ∷ us) (v ∷ vs) z =
        go (is_full v) (not (u.piece.size == 0)) (ap (λ (n : ℕ). not (n == 0)) z.0.size) (full-ends us vs z.1)
      where
        go : (b c : Bool) → b ≡ c → map piece_end (filter is_full vs)
            ≡ map (λ (u : PlacedPiece). u.start + u.piece.size)
            (filter (λ (u : PlacedPiece). not (u.piece.size == 0)) us)
            → map piece_end (cond b (v ∷ filter is_full vs) (filter is_full vs))
            ≡ map (λ (u : PlacedPiece). u.start + u.piece.size)
            (cond c (u ∷ filter (λ (u : PlacedPiece). not (u.piece.size == 0)) us)
            (filter (λ (u : PlacedPiece). not (u.piece.size == 0)) us))
        go true true e rest = rw (z.0.start, z.0.size) (ap (λ (ns : List ℕ). (u.start + u.piece.size) ∷ ns) rest)
        go false false e rest = rest
        go true false e rest = cc
        go false true e rest = cc

    data-ends : (us : List layout.PlacedData) (vs : List PlacedData) → AllZip IsImageData us vs → map data_end vs
        ≡ map (λ (d : layout.PlacedData). d.start + length d.bytes) us
    data-ends [] [] z = refl
    data-ends [] (v ∷ vs) z = absurd z
    data-ends (u ∷ us) [] z = absurd z
    data-ends (u ∷ us) (v ∷ vs) z =
        rw (z.0.start, data-long u v z.0) (ap (λ (ns : List ℕ). (u.start + length u.bytes) ∷ ns) (data-ends us vs z.1))

    same-ends : ends_in y ≡ image.ends_in x.section
    same-ends = ap (λ (ns : List ℕ). ns ++ map data_end y.data_commands.now)
        (full-ends x.section.pieces y.pieces.now h.pieces)
        ∙ ap (λ (ns : List ℕ).
        map (λ (u : PlacedPiece). u.start + u.piece.size)
        (filter (λ (u : PlacedPiece). not (u.piece.size == 0)) x.section.pieces)
        ++ ns) (data-ends x.section.data_commands y.data_commands.now h.data_commands)

    gap-same : (at : ℕ) → gap_byte y at ≡ image.gap_byte x.section at
    gap-same at =
        h.fill (at - last_end at y.start (ends_in y))
        ∙ ap (λ (n : ℕ). fill_byte x.section.fill (at - last_end at n (ends_in y))) h.start
        ∙ ap (λ (ns : List ℕ). fill_byte x.section.fill (at - last_end at x.section.start ns)) same-ends

    piece-same : (at : ℕ) (u : PlacedPiece) (v : ImagePiece) → IsImagePiece p s u v → v.stays ≡ false
        → covers_piece at v ≡ true → piece_byte at v ≡ cases.piece_byte p s at u
    piece-same at u v r e c =
        let low : v.start ≤ at = covers-low v.start v.size at c in
        let high : at < v.start + v.size = covers-high v.start v.size at c in
        r.bytes e (at - v.start) (omega arith)
        ∙ ap (λ (n : ℕ). part_byte p s u.piece.object u.piece.part u.start (at - n)) r.start

    data-same : (at : ℕ) (u : layout.PlacedData) (v : PlacedData) → IsImageData u v → data_byte at v
        ≡ image.data_byte at u
    data-same at u v r = ap (λ (bs : List ℕ). slice_index bs (at - v.start)) r.bytes
        ∙ ap (λ (n : ℕ). slice_index u.bytes (at - n)) r.start

    among : (at : ℕ) (u : Option PlacedPiece) (v : Option ImagePiece) (w : Option layout.PlacedData)
        (z : Option PlacedData) → Both (IsImagePiece p s) (covers_piece at) u v → Both IsImageData (covers_data at) w z
        → (spot_among y at v z).stays ≡ false → (spot_among y at v z).byte ≡ cases.byte_among p s x.section at u w
    among at u v w z (both r t) d e = piece-same at _ _ r e t
    among at u v w z neither (both r t) e = data-same at _ _ r
    among at u v w z neither neither e = gap-same at

    -- a byte of an output section
    pub section-same : (at : ℕ) → (section_spot y at).stays ≡ false → (section_spot y at).byte
        ≡ output_byte p s x.section at
    unfolding section_spot
    section-same at e =
        among at (covering_piece x.section at) (find (covers_piece at) y.pieces.now) (covering_data x.section at)
        (find (covers_data at) y.data_commands.now)
        (find-zip (IsImagePiece p s) (λ (u : PlacedPiece). covers u.start u.piece.size at) (covers_piece at) (λ u v r.
        rw (r.start, r.size) refl) x.section.pieces y.pieces.now h.pieces)
        (find-zip IsImageData (λ (d : layout.PlacedData). covers d.start (length d.bytes) at) (covers_data at)
        (λ u v r. rw (r.start, data-long u v r) refl) x.section.data_commands y.data_commands.now h.data_commands)
        e

  past : (o : ℕ) (u : Option SectionInFile) (v : Option ImageSection) (w : Option FilePart) (z : Option ImagePart)
      → Both (IsImageSection p s) (covers_section o) u v → Both IsImagePart (covers_part o) w z
      → (spot_past_headers o v z).stays ≡ false → (spot_past_headers o v z).byte ≡ byte_past_headers p s o u w
  past o (Some x) (Some y) w z (both r t) d e =
      section-same x y r (y.start + (o - y.offset)) e
      ∙ ap (λ (n : ℕ). output_byte p s x.section (n + (o - y.offset))) r.start
      ∙ ap (λ (n : ℕ). output_byte p s x.section (x.section.start + (o - n))) r.offset
  past o None None (Some x) (Some y) neither (both r t) e = ap (λ (bs : List ℕ). slice_index bs (o - y.offset)) r.bytes
      ∙ ap (λ (n : ℕ). slice_index x.bytes (o - n)) r.offset
  past o None None None None neither neither e = refl
  past o None None None (Some y) c d e = elim d [ ]
  past o None None (Some x) None c d e = elim d [ ]
  past o None (Some y) w z c d e = elim c [ ]
  past o (Some x) None w z c d e = elim c [ ]

  sections-both : (d : Drawing) → IsDrawingOf p s d → (o : ℕ)
      → Both (IsImageSection p s) (covers_section o) (file_section_at s o) (find (covers_section o) d.sections.now)
  sections-both d h o =
      let found = find-zip (IsImageSection p s) (λ (x : SectionInFile). covers x.offset x.section.size o)
      (covers_section o) (λ x y r. rw (r.offset, r.size) refl) (loaded s) d.sections.now h.sections in
      subst (λ u. Both (IsImageSection p s) (covers_section o) u (find (covers_section o) d.sections.now))
      (sym (find-filter (λ (x : SectionInFile). x.section.has_file_bytes) (λ (x : SectionInFile).
      covers x.offset x.section.size o) (in_file (segments s.sections)))) found

  parts-both : (d : Drawing) → IsDrawingOf p s d → (o : ℕ)
      → Both IsImagePart (covers_part o) (tail_at p s o) (find (covers_part o) d.tail.now)
  parts-both d h o =
      find-zip IsImagePart (λ (x : FilePart). covers x.offset (length x.bytes) o) (covers_part o) (λ x y r.
      ap (λ (bs : List ℕ). covers y.offset (length bs) o) r.bytes
      ∙ ap (λ (n : ℕ). covers n (length x.bytes) o) r.offset)
      (tail p s) d.tail.now h.tail

  -- a byte of the image
  pub drawing-same : (d : Drawing) → IsDrawingOf p s d → (o : ℕ) → (drawing_spot d o).stays ≡ false
      → (drawing_spot d o).byte ≡ byte_at p s o
  unfolding drawing_spot
  drawing-same d h o e =
      go (nat_lt o (length d.headers.now)) (nat_lt o (length (file_headers p s)))
      (ap (λ (bs : List ℕ). nat_lt o (length bs)) h.headers) e ∙ sym (by_cases p s o)
    where
      there : Spot
      there = spot_past_headers o (find (covers_section o) d.sections.now) (find (covers_part o) d.tail.now)

      own : Spot
      own = record { byte = slice_index d.headers.now o; stays = false }

      go : (b c : Bool) → b ≡ c → (cond b own there).stays ≡ false → (cond b own there).byte
          ≡ cond c (slice_index (file_headers p s) o) (byte_past_headers p s o (file_section_at s o) (tail_at p s o))
      go true true f e = ap (λ (bs : List ℕ). slice_index bs o) h.headers
      go false false f e = past o (file_section_at s o) (find (covers_section o) d.sections.now) (tail_at p s o)
          (find (covers_part o) d.tail.now) (sections-both d h o) (parts-both d h o) e
      go true false f e = cc
      go false true f e = cc

four : (from : ℕ) (a b c e : FilePart) (ys : List ImagePart) → AllZip IsImagePart (a ∷ b ∷ c ∷ e ∷ []) ys
    → end_of_parts from ys ≡ end_of_part e
four from a b c e [] h = absurd h
four from a b c e (t ∷ []) h = absurd h.1
four from a b c e (t ∷ u ∷ []) h = absurd h.1.1
four from a b c e (t ∷ u ∷ v ∷ []) h = absurd h.1.1.1
four from a b c e (t ∷ u ∷ v ∷ w ∷ []) h =
    ap (λ (n : ℕ). n + length w.bytes.now) h.1.1.1.0.offset ∙ ap (λ (bs : List ℕ). e.offset + length bs) h.1.1.1.0.bytes
four from a b c e (t ∷ u ∷ v ∷ w ∷ x ∷ xs) h = absurd h.1.1.1.1

-- where the image ends
pub end-same : (p : Project) (s : Layout) (d : Drawing) → IsDrawingOf p s d → drawing_end d ≡ image_length p s
unfolding image_length
end-same p s d h = four (end_of_sections (length d.headers.now) d.sections.now) _ _ _ _ d.tail.now h.tail

-- bytes that are those of the image
pub image-same : (p : Project) (s : Layout) (bytes : List ℕ) → length bytes ≡ image_length p s
    → ((o : ℕ) → o < image_length p s → slice_index bytes o ≡ byte_at p s o) → bytes ≡ image.image p s
unfolding image.image
image-same p s bytes l each = fill_by_all (byte_at p s) bytes (image_length p s) 0 l each

find-all : {X : Type 0} (P : X → Type 0) (test : X → Bool) (xs : List X) → All P xs → FoundAll P (find test xs)
find-all P test [] h = tt
find-all P test (x ∷ xs) h = go (test x) (find-all P test xs (λ k d l. h (suc k) d (omega arith)))
  where
    go : (b : Bool) → FoundAll P (find test xs) → FoundAll P (cond b (Some x) (find test xs))
    go true f = h 0 x (omega arith)
    go false f = f

unstayed-among : (x : ImageSection) (at : ℕ) (u : Option ImagePiece) (w : Option PlacedData)
    → FoundAll (λ (y : ImagePiece). y.stays ≡ false) u → (spot_among x at u w).stays ≡ false
unstayed-among x at (Some y) w h = h
unstayed-among x at None (Some d) h = refl
unstayed-among x at None None h = refl

unstayed-section : (x : ImageSection) (at : ℕ) → All (λ (y : ImagePiece). y.stays ≡ false) x.pieces.now
    → (section_spot x at).stays ≡ false
unfolding section_spot
unstayed-section x at h =
    unstayed-among x at (find (covers_piece at) x.pieces.now) (find (covers_data at) x.data_commands.now)
    (find-all (λ (y : ImagePiece). y.stays ≡ false) (covers_piece at) x.pieces.now h)

unstayed-past : (o : ℕ) (u : Option ImageSection) (w : Option ImagePart)
    → FoundAll (λ (x : ImageSection). All (λ (y : ImagePiece). y.stays ≡ false) x.pieces.now) u
    → (spot_past_headers o u w).stays ≡ false
unstayed-past o (Some x) w h = unstayed-section x (x.start + (o - x.offset)) h
unstayed-past o None (Some t) h = refl
unstayed-past o None None h = refl

-- nothing stays where no input section does
pub unstayed : (d : Drawing) → AreUnstayed d → (o : ℕ) → (drawing_spot d o).stays ≡ false
unfolding drawing_spot
unstayed d h o = go (nat_lt o (length d.headers.now))
    (unstayed-past o (find (covers_section o) d.sections.now) (find (covers_part o) d.tail.now)
    (find-all (λ (x : ImageSection). All (λ (y : ImagePiece). y.stays ≡ false) x.pieces.now) (covers_section o)
    d.sections.now h))
  where
    there : Spot
    there = spot_past_headers o (find (covers_section o) d.sections.now) (find (covers_part o) d.tail.now)

    go : (b : Bool) → there.stays ≡ false
        → (cond b (record { byte = slice_index d.headers.now o; stays = false }) there).stays ≡ false
    go true e = refl
    go false e = e
