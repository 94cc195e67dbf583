-- The parts of a drawing of a link stand in order.
use Rattle.emit_image.proofs.Common.{All, AllZip, AllZip-long, AreParts, ArePieces, AreSections, Bool, Drawing}
use Rattle.emit_image.proofs.Common.{FilePart, ImagePart, ImagePiece, ImageSection, IsDrawing, IsDrawingOf}
use Rattle.emit_image.proofs.Common.{IsFileLayout, IsImageData, IsImagePart, IsImagePiece, IsImageSection, IsOrderly}
use Rattle.emit_image.proofs.Common.{Layout, List, PlacedOutput, PlacedPiece, Project, SectionInFile, [], ap, arith}
use Rattle.emit_image.proofs.Common.{cond, end_of, end_of_part, end_of_sections, false, file_headers, flat_map}
use Rattle.emit_image.proofs.Common.{flat_map-cons, get_or, get_or-map, header_part, image_length, in_file, inl, inr}
use Rattle.emit_image.proofs.Common.{insert_by, length, length-append, length-map, loaded, loaded_end, map, map-append}
use Rattle.emit_image.proofs.Common.{nat_lt, nat_tests, next_multiple_of, nonempty, not, part_end, refl, segment_start}
use Rattle.emit_image.proofs.Common.{segments, sort_by, subst, suc, sym, tables, tail, true, zero, ℕ, ◌*◌, ◌++◌, ◌+◌}
use Rattle.emit_image.proofs.Common.{◌<◌, ◌==◌, ◌^◌, ◌∙◌, ◌∷◌, ◌≡◌, ◌≤◌}
use Rattle.ldmodel.specs.Headers.{ascending, elf_header, program_header}
use Rattle.ldmodel.specs.Layout as layout
use Rattle.ldmodel.specs.SectionHeaders.{header_count, header_names_number}
use Rattle.ldmodel.specs.Segments.{Segment, headers_end, in_segment, group_sections}
use Rattle.ldmodel.specs.SymbolValues.{entry_point, number_or_0}
use Rattle.ldmodel.specs.declared.placed.PlacedData.{PlacedData}
use Rattle.emit_image.specs.Drawing.{AreApart, AreData, data_end, piece_end}
use Rattle.emit_image.specs.InMemory.{AreFilled, DataInOrder, DoNotMeet, IsInMemory, IsSectionFilled, PiecesInOrder}
use Rattle.emit_image.specs.InMemory.{bytes_end, placed_end}
use Rattle.emit_image.proofs.FileOrder.{InFile, files, last_file_end}
use Rattle.emit_image.proofs.Found.{all-full}
use Rattle.emit_image.proofs.OfLink.{data-long}

zip-at : {X Y : Type 0} (R : X → Y → Type 0) (xs : List X) (ys : List Y) (i : ℕ) (d : X) (e : Y) → AllZip R xs ys
    → i < length ys → R (get_or xs i d) (get_or ys i e)
zip-at R [] [] i d e h l = absurd (omega arith)
zip-at R [] (y ∷ ys) i d e h l = absurd h
zip-at R (x ∷ xs) [] i d e h l = absurd h
zip-at R (x ∷ xs) (y ∷ ys) zero d e h l = h.0
zip-at R (x ∷ xs) (y ∷ ys) (suc i) d e h l = zip-at R xs ys i d e h.1 (omega arith)

pieces-stand : (p : Project) (s : Layout) (from end : ℕ) (xs : List PlacedPiece) (ys : List ImagePiece)
    → AllZip (IsImagePiece p s) xs ys → PiecesInOrder from end xs → ArePieces from end ys
pieces-stand p s from end [] [] z h = h
pieces-stand p s from end [] (y ∷ ys) z h = absurd z
pieces-stand p s from end (x ∷ xs) [] z h = absurd z
pieces-stand p s from end (x ∷ xs) (y ∷ ys) z h =
    let same : piece_end y ≡ placed_end x = omega (arith, z.0.start, z.0.size) in (
      omega (arith, h.0, z.0.start),
      subst (λ (n : ℕ). ArePieces n end ys) (sym same) (pieces-stand p s (placed_end x) end xs ys z.1 h.1),
    )

data-stand : (from end : ℕ) (xs : List layout.PlacedData) (ys : List PlacedData) → AllZip IsImageData xs ys
    → DataInOrder from end xs → AreData from end ys
data-stand from end [] [] z h = h
data-stand from end [] (y ∷ ys) z h = absurd z
data-stand from end (x ∷ xs) [] z h = absurd z
data-stand from end (x ∷ xs) (y ∷ ys) z h =
    let long = data-long x y z.0 in
    let same : data_end y ≡ bytes_end x = omega (arith, z.0.start, long) in (
      omega (arith, h.0, z.0.start),
      subst (λ (n : ℕ). AreData n end ys) (sym same) (data-stand (bytes_end x) end xs ys z.1 h.1),
    )

first-of : {X Y : Type 0} (R : X → Y → Type 0) (xs : List X) (ys : List Y) (i : ℕ) → AllZip R xs ys → i < length ys → X
first-of R [] [] i h l = absurd (omega arith)
first-of R [] (y ∷ ys) i h l = absurd h
first-of R (x ∷ xs) ys i h l = x

apart-stand : (p : Project) (s : Layout) (xs : List PlacedPiece) (us : List layout.PlacedData) (ys : List ImagePiece)
    (vs : List PlacedData) → AllZip (IsImagePiece p s) xs ys → AllZip IsImageData us vs → DoNotMeet xs us
    → AreApart ys vs
apart-stand p s xs us ys vs z w h = λ i j y v l m some. (
    let x : PlacedPiece = first-of (IsImagePiece p s) xs ys i z l in
    let u : layout.PlacedData = first-of IsImageData us vs j w m in
    let r = zip-at (IsImagePiece p s) xs ys i x y z l in
    let t = zip-at IsImageData us vs j u v w m in
    let long = data-long (get_or us j u) (get_or vs j v) t in
    let lx : i < length xs = omega (arith, l, AllZip-long (IsImagePiece p s) xs ys z) in
    let lu : j < length us = omega (arith, m, AllZip-long IsImageData us vs w) in
    elim (h i j x u lx lu (omega (arith, some, r.size))) [
      | inl a ↦ inl (omega (arith, a, r.start, r.size, t.start))
      | inr a ↦ inr (omega (arith, a, r.start, t.start, long))
    ]
    )

orderly : (p : Project) (s : Layout) (x : SectionInFile) (y : ImageSection) → IsImageSection p s x y
    → IsInMemory x.section → IsSectionFilled y → y.offset + y.size < 2 ^ 64 → IsOrderly y
orderly p s x y r m f e =
    let stop : end_of x.section ≡ y.start + y.size = omega (arith, r.start, r.size) in
    record {
      some_fill = f.some_fill;
      short_fill = f.short_fill;
      end = omega (arith, m.end, stop);
      file_end = e;
      pieces = subst (λ (n : ℕ). ArePieces y.start n y.pieces.now) stop
          (subst (λ (n : ℕ). ArePieces n (end_of x.section) y.pieces.now) (sym r.start)
          (pieces-stand p s x.section.start (end_of x.section) x.section.pieces y.pieces.now r.pieces m.pieces));
      filled = f.pieces;
      data_commands = subst (λ (n : ℕ). AreData y.start n y.data_commands.now) stop
          (subst (λ (n : ℕ). AreData n (end_of x.section) y.data_commands.now) (sym r.start)
          (data-stand x.section.start (end_of x.section) x.section.data_commands y.data_commands.now r.data_commands
          m.data_commands));
      apart = apart-stand p s x.section.pieces x.section.data_commands y.pieces.now y.data_commands.now r.pieces
          r.data_commands m.apart;
    }

all-rest : {X : Type 0} (P : X → Type 0) (x : X) (xs : List X) → All P (x ∷ xs) → All P xs
all-rest P x xs h = λ k d l. h (suc k) d (omega arith)

in-file-end : (from : ℕ) (xs : List SectionInFile) → InFile from xs → from ≤ last_file_end from xs
in-file-end from [] h = omega arith
in-file-end from (x ∷ xs) h = let later = in-file-end (x.offset + x.section.size) xs h.1 in omega (arith, h.0)

-- output sections stand in order in the file, and end where those of the link do
sections-stand : (p : Project) (s : Layout) (from : ℕ) (xs : List SectionInFile) (ys : List ImageSection)
    → AllZip (IsImageSection p s) xs ys → InFile from xs → All (λ (x : SectionInFile). IsInMemory x.section) xs
    → All IsSectionFilled ys
    → last_file_end from xs < 2 ^ 64 → AreSections from ys × (end_of_sections from ys ≡ last_file_end from xs)
sections-stand p s from [] [] z h m f e = (tt, refl)
sections-stand p s from [] (y ∷ ys) z h m f e = absurd z
sections-stand p s from (x ∷ xs) [] z h m f e = absurd z
sections-stand p s from (x ∷ xs) (y ∷ ys) z h m f e =
    let r = z.0 in
    let stop : y.offset + y.size ≡ x.offset + x.section.size = omega (arith, r.offset, r.size) in
    let later = in-file-end (x.offset + x.section.size) xs h.1 in
    let rest = sections-stand p s (x.offset + x.section.size) xs ys z.1 h.1
    (all-rest (λ (x : SectionInFile). IsInMemory x.section) x xs m) (all-rest IsSectionFilled y ys f) e in (
      (
        omega (arith, h.0, r.offset),
        orderly p s x y r (m 0 x (omega arith)) (f 0 y (omega arith)) (omega (arith, stop, later, e)),
        subst (λ (n : ℕ). AreSections n ys) (sym stop) rest.0,
      ),
      ap (λ (n : ℕ). end_of_sections n ys) stop ∙ rest.1,
    )

-- parts of the tail one after the other
abbrev PartsInOrder : ℕ → List FilePart → Type 0
PartsInOrder from [] = Unit {0}
PartsInOrder from (x ∷ xs) = (from ≤ x.offset) × PartsInOrder (end_of_part x) xs

abbrev end_of_file : ℕ → List FilePart → ℕ
end_of_file from [] = from
end_of_file from (x ∷ xs) = end_of_file (end_of_part x) xs

parts-end : (from : ℕ) (xs : List FilePart) → PartsInOrder from xs → from ≤ end_of_file from xs
parts-end from [] h = omega arith
parts-end from (x ∷ xs) h = let later = parts-end (end_of_part x) xs h.1 in omega (arith, h.0)

-- lengths of headers
inserted-long : {X : Type 0} (lt : X → X → Bool) (x : X) (xs : List X) → length (insert_by lt x xs) ≡ suc (length xs)
inserted-long lt x [] = refl
inserted-long lt x (y ∷ ys) = go (lt y x) (inserted-long lt x ys)
  where
    go : (b : Bool) → length (insert_by lt x ys) ≡ suc (length ys)
        → length (cond b (y ∷ insert_by lt x ys) (x ∷ y ∷ ys)) ≡ suc (suc (length ys))
    go true e = ap suc e
    go false e = refl

sorted-long : {X : Type 0} (lt : X → X → Bool) (xs : List X) → length (sort_by lt xs) ≡ length xs
unfolding sort_by
sorted-long lt [] = refl
sorted-long lt (x ∷ xs) = inserted-long lt x (sort_by lt xs) ∙ ap suc (sorted-long lt xs)

one-long : (g : Segment) → length (program_header g) ≡ 56
unfolding program_header
one-long g = refl

program-long : (gs : List Segment) → length (flat_map program_header gs) ≡ 56 * length gs
program-long [] = refl
program-long (g ∷ gs) =
    let rest = program-long gs in
    ap length (flat_map-cons program_header g gs) ∙ length-append (program_header g) (flat_map program_header gs)
    ∙ (let one = one-long g in let t : length (program_header g) + length (flat_map program_header gs)
    ≡ 56 * suc (length gs) = omega (arith, one, rest) in t)

elf-long : (a b c d e : ℕ) → length (elf_header a b c d e) ≡ 64
unfolding elf_header
elf-long a b c d e = refl

headers-long : (p : Project) (s : Layout) → length (file_headers p s) ≡ headers_end (length (segments s.sections))
unfolding file_headers
headers-long p s =
    let gs : List Segment = segments s.sections in
    length-append (elf_header (number_or_0 (entry_point p s)) (length gs) ((header_part p s).offset) (header_count s)
    (header_names_number s)) (flat_map program_header (ascending gs))
    ∙ ap (λ (n : ℕ). n + length (flat_map program_header (ascending gs)))
    (elf-long (number_or_0 (entry_point p s)) (length gs) ((header_part p s).offset) (header_count s)
    (header_names_number s))
    ∙ ap (λ (n : ℕ). 64 + n) (program-long (ascending gs)
    ∙ ap (λ (n : ℕ). 56 * n) (sorted-long (λ (g h : Segment). nat_lt (segment_start g) (segment_start h)) gs))

-- the tail stands in order past the loaded part
module _ (p : Project) (s : Layout) where
  starts-past : (from : ℕ) (xs : List FilePart) (ys : List ImagePart) → AllZip IsImagePart xs ys → PartsInOrder from xs
      → end_of_file from xs < 2 ^ 64 → AreParts from ys
  starts-past from [] [] z h e = tt
  starts-past from [] (y ∷ ys) z h e = absurd z
  starts-past from (x ∷ xs) [] z h e = absurd z
  starts-past from (x ∷ xs) (y ∷ ys) z h e =
      let long : length y.bytes.now ≡ length x.bytes = ap length z.0.bytes in
      let stop : part_end y ≡ end_of_part x = omega (arith, long, z.0.offset) in
      let later = parts-end (end_of_part x) xs h.1 in (
        omega (arith, h.0, z.0.offset),
        omega (arith, stop, later, e),
        subst (λ (n : ℕ). AreParts n ys) (sym stop) (starts-past (end_of_part x) xs ys z.1 h.1 e),
      )

  le-same : (n : ℕ) → n ≤ n
  le-same n = omega arith

  aligned-up : (n : ℕ) → n ≤ next_multiple_of n 8
  aligned-up n = omega arith

  tail-order : PartsInOrder (loaded_end (segments s.sections)) (tail p s)
  unfolding tables header_part
  tail-order = (
    aligned-up (loaded_end (segments s.sections)),
    (le-same _, (le-same _, (aligned-up (end_of_part ((tables p s).header_names)), tt))),
  )

  tail-last : end_of_file (loaded_end (segments s.sections)) (tail p s) ≡ image_length p s
  unfolding image_length
  tail-last = refl

sections-of : (g : Segment) (qs : List PlacedOutput) → map (λ (x : SectionInFile). x.section) (map (in_segment g) qs)
    ≡ qs
sections-of g [] = refl
sections-of g (q ∷ qs) = ap (λ (rs : List PlacedOutput). q ∷ rs) (sections-of g qs)

all-sections : (gs : List Segment) → map (λ (x : SectionInFile). x.section) (in_file gs)
    ≡ flat_map group_sections (map (λ (g : Segment). g.group) gs)
all-sections [] = refl
all-sections (g ∷ gs) =
    ap (map (λ (x : SectionInFile). x.section))
    (flat_map-cons (λ (g : Segment). map (in_segment g) (group_sections g.group)) g gs)
    ∙ map-append (λ (x : SectionInFile). x.section) (map (in_segment g) (group_sections g.group)) (in_file gs)
    ∙ ap (λ (qs : List PlacedOutput). qs ++ map (λ (x : SectionInFile). x.section) (in_file gs))
    (sections-of g (group_sections g.group))
    ∙ ap (λ (qs : List PlacedOutput). group_sections g.group ++ qs) (all-sections gs)
    ∙ sym (flat_map-cons group_sections g.group (map (λ (g : Segment). g.group) gs))

all-unmapped : {X Y : Type 0} (P : Y → Type 0) (f : X → Y) (xs : List X) → All P (map f xs) → All (λ x. P (f x)) xs
all-unmapped P f xs h = λ k d l.
    subst P (get_or-map f xs k d (f d) l) (h k (f d) (subst (λ (n : ℕ). k < n) (sym (length-map xs f)) l))

full-size : (n : ℕ) → not (n == 0) ≡ true → 0 < n
full-size n h = grind (arith, nat_tests)

all-full-sections : (qs : List PlacedOutput) → All (λ (q : PlacedOutput). 0 < q.size) (nonempty qs)
all-full-sections qs =
    all-full (λ (q : PlacedOutput). not (q.size == 0)) (λ (q : PlacedOutput). 0 < q.size) qs (λ i d l t.
    full-size ((get_or qs i d).size) t)

-- a drawing of a link, the parts of which stand in order in memory, and are filled, stands in order in the file
pub stands : (p : Project) (s : Layout) (d : Drawing) → IsFileLayout s.sections (segments s.sections)
    → IsDrawingOf p s d → All IsInMemory (nonempty s.sections) → AreFilled d → image_length p s < 2 ^ 64 → IsDrawing d
stands p s d layout-is h m f e =
    let gs : List Segment = segments s.sections in
    let parts = layout-is.grouping.parts in
    let full : All (λ (q : PlacedOutput). 0 < q.size) (flat_map group_sections (map (λ (g : Segment). g.group) gs)) =
    subst (All (λ (q : PlacedOutput). 0 < q.size)) (sym parts) (all-full-sections s.sections) in
    let order = files (headers_end (length gs)) gs layout-is.grouping.together layout-is.offsets full in
    let placed : All (λ (x : SectionInFile). IsInMemory x.section) (in_file gs) =
    all-unmapped IsInMemory (λ (x : SectionInFile). x.section) (in_file gs)
    (subst (All IsInMemory) (sym (all-sections gs ∙ parts)) m) in
    let there : All (λ (x : SectionInFile). IsInMemory x.section) (loaded s) =
    all-full (λ (x : SectionInFile). x.section.has_file_bytes) (λ (x : SectionInFile).
    IsInMemory x.section) (in_file gs) (λ i x l t. placed i x l) in
    let front : length d.headers.now ≡ headers_end (length gs) = ap length h.headers ∙ headers-long p s in
    let past = parts-end (loaded_end gs) (tail p s) (tail-order p s) in
    let last = tail-last p s in
    let under : last_file_end (headers_end (length gs)) (loaded s) < 2 ^ 64 = omega (arith, order.1, past, last, e) in
    let drawn = sections-stand p s (headers_end (length gs)) (loaded s) d.sections.now h.sections order.0 there f under
    in
    let stop : end_of_sections (length d.headers.now) d.sections.now ≡ loaded_end gs =
    ap (λ (n : ℕ). end_of_sections n d.sections.now) front ∙ drawn.1 ∙ order.1 in
    record {
      sections = subst (λ (n : ℕ). AreSections n d.sections.now) (sym front) drawn.0;
      tail = subst (λ (n : ℕ). AreParts n d.tail.now) (sym stop)
          (starts-past p s (loaded_end gs) (tail p s) d.tail.now h.tail (tail-order p s) (omega (arith, last, e)));
    }
