-- The byte of the image in an input section with file bytes.
use Rattle.ldmodel_laws.proofs.Common.{AreNamed, Bool, Contains, Each, EachLater, IsSpread, Layout, List, PlacedOutput}
use Rattle.ldmodel_laws.proofs.Common.{PlacedPiece, Project, Segment, Some, [], and_from, and_parts, ap, arith, byte_at}
use Rattle.ldmodel_laws.proofs.Common.{bytes_eq, bytes_eq-Decides, cond, covering_data, covering_piece, covers}
use Rattle.ldmodel_laws.proofs.Common.{eqb-true, false, file_headers, file_section_at, filter, find, flat_map, groups}
use Rattle.ldmodel_laws.proofs.Common.{insert_by, le-leb, le-ltb, leb-true, length, length-append, lt-ltb, ltb-true}
use Rattle.ldmodel_laws.proofs.Common.{map, map-append, nat_le, nat_lt, not, offset_in_file, option_map_or, piece_end}
use Rattle.ldmodel_laws.proofs.Common.{refl, segments, slice_index, sort_by, subst, suc, sym, tail_at, true, true≢false}
use Rattle.ldmodel_laws.proofs.Common.{ℕ, ◌&&◌, ◌*◌, ◌++◌, ◌+◌, ◌-◌, ◌<◌, ◌==◌, ◌∙◌, ◌∷◌, ◌≡◌, ◌≤◌}
use Rattle.ldmodel.specs.Headers.{elf_header, program_header, program_headers, ascending}
use Rattle.ldmodel.specs.Segments.{Group, SectionInFile, file_offset, headers_end, in_file, in_segment, loaded_end}
use Rattle.ldmodel.specs.Segments.{begun, begun_from, file_end, nonempty, group_sections}
use Rattle.ldmodel_laws.specs.ByteCases.{byte_among, byte_past_headers, output_byte, part_byte}
use Rattle.ldmodel_laws.specs.FileOrder.{AreInFileOrder, end_in_file}
use Rattle.ldmodel_laws.proofs.ByteCases.{by_cases}
use Rattle.ldmodel_laws.proofs.FileOrder.{files_in_order}
use Rattle.ldmodel_laws.proofs.Finding.{Comes, NotBoth, find_filter, find_only, in_map}
use Rattle.ldmodel_laws.proofs.Finding.{member_of}
use Rattle.ldmodel_laws.proofs.Grouped.{is_grouping}
use Rattle.ldmodel_laws.proofs.Members.{filter_in}
use Rattle.ldmodel_laws.proofs.EachOf.{later_of_map, later_filter, later_imply}

-- ---- the headers

length_inserted : {X : Type 0} (below : X → X → Bool) (x : X) (xs : List X) → length (insert_by below x xs)
    ≡ suc (length xs)
length_inserted below x [] = refl
length_inserted below x (y ∷ ys) = go (below y x) (length_inserted below x ys)
  where
    go : (b : Bool) → length (insert_by below x ys) ≡ suc (length ys)
        → length (cond b (y ∷ insert_by below x ys) (x ∷ y ∷ ys)) ≡ suc (length (y ∷ ys))
    go true h = ap suc h
    go false h = refl

length_sorted : {X : Type 0} (below : X → X → Bool) (xs : List X) → length (sort_by below xs) ≡ length xs
unfolding sort_by
length_sorted below [] = refl
length_sorted below (x ∷ xs) = length_inserted below x (sort_by below xs) ∙ ap suc (length_sorted below xs)

length_header : (g : Segment) → length (program_header g) ≡ 56
unfolding program_header
length_header g = refl

length_all : (gs : List Segment) → length (flat_map program_header gs) ≡ 56 * length gs
length_all [] = refl
length_all (g ∷ gs) =
    let own : length (program_header g) ≡ 56 = length_header g in
    let rest : length (flat_map program_header gs) ≡ 56 * length gs = length_all gs in
    let both : length (program_header g ++ flat_map program_header gs)
    ≡ length (program_header g) + length (flat_map program_header gs) =
    length-append (program_header g) (flat_map program_header gs) in
    omega (arith, own, rest, both)

length_first : (a b c d e : ℕ) → length (elf_header a b c d e) ≡ 64
unfolding elf_header
length_first a b c d e = refl

length_headers : (p : Project) (s : Layout) → length (file_headers p s) ≡ headers_end (length (segments s.sections))
unfolding file_headers
length_headers p s =
    let gs : List Segment = segments s.sections in
    let all : length (program_headers gs) ≡ 56 * length gs = length_all (ascending gs)
    ∙ ap (λ n. 56 * n) (length_sorted _ gs) in
    length-append (elf_header _ _ _ _ _) (program_headers gs)
    ∙ ap (λ n. n + length (program_headers gs)) (length_first _ _ _ _ _) ∙ ap (λ n. 64 + n) all

-- ---- output sections in the file

abbrev section_in : SectionInFile → PlacedOutput
section_in x = x.section

sections_placed : (g : Segment) (qs : List PlacedOutput) → map section_in (map (in_segment g) qs) ≡ qs
sections_placed g [] = refl
sections_placed g (q ∷ qs) = ap (λ l. q ∷ l) (sections_placed g qs)

sections_of : (end : ℕ) (gs : List Group) → map section_in (in_file (begun_from end gs)) ≡ flat_map group_sections gs
sections_of end [] = refl
sections_of end (g ∷ gs) =
    map-append section_in (map (in_segment (begun end g)) (group_sections g))
    (in_file (begun_from (file_end end (begun end g)) gs))
    ∙ ap (λ l. l ++ map section_in (in_file (begun_from (file_end end (begun end g)) gs)))
    (sections_placed (begun end g) (group_sections g))
    ∙ ap (λ l. group_sections g ++ l) (sections_of (file_end end (begun end g)) gs)

pub all_sections : (sections : List PlacedOutput) → map section_in (in_file (segments sections)) ≡ nonempty sections
unfolding segments
all_sections sections = sections_of (headers_end (length (groups (nonempty sections)))) (groups (nonempty sections))
    ∙ (is_grouping (nonempty sections)).parts

-- ---- ranges

pub covered : (a n o : ℕ) → covers a n o ≡ true → (a ≤ o) × (o < a + n)
covered a n o e = let k = and_parts (nat_le a o) (nat_lt o (a + n)) e in (leb-true a o k.0, ltb-true o (a + n) k.1)

pub covering : (a n o : ℕ) → a ≤ o → o < a + n → covers a n o ≡ true
covering a n o h k = and_from (nat_le a o) (nat_lt o (a + n)) (le-leb a o h) (lt-ltb o (a + n) k)

-- two ranges of which one ends before the other do not both cover a number
apart : (a n b m o : ℕ) → a + n ≤ b → (covers a n o && covers b m o) ≡ false
apart a n b m o h = go (covers a n o) (covers b m o) refl refl
  where
    go : (u v : Bool) → covers a n o ≡ u → covers b m o ≡ v → (u && v) ≡ false
    go false v e f = refl
    go true false e f = refl
    go true true e f = absurd (omega (arith, h, (covered a n o e).1, (covered b m o f).0))

pub same_name : (name : List ℕ) → bytes_eq name name ≡ true
same_name name = (bytes_eq-Decides name name).1 refl

pub one_name : (a b name : List ℕ) → bytes_eq a b ≡ false → (bytes_eq a name && bytes_eq b name) ≡ false
one_name a b name h = go (bytes_eq a name) (bytes_eq b name) refl refl
  where
    go : (u v : Bool) → bytes_eq a name ≡ u → bytes_eq b name ≡ v → (u && v) ≡ false
    go false v e f = refl
    go true false e f = refl
    go true true e f = absurd
        (true≢false (sym ((bytes_eq-Decides a b).1 ((bytes_eq-Decides a name).0 e
        ∙ sym ((bytes_eq-Decides b name).0 f))) ∙ h))

-- ---- an output section in the file

-- the names of the output sections in the file differ
pub names_apart : (sections : List PlacedOutput) → AreNamed sections
    → EachLater (λ (x y : SectionInFile). bytes_eq x.section.name y.section.name ≡ false) (in_file (segments sections))
names_apart sections named =
    later_of_map (λ (r t : PlacedOutput). bytes_eq r.name t.name ≡ false) section_in (in_file (segments sections))
    (subst (EachLater (λ (r t : PlacedOutput). bytes_eq r.name t.name ≡ false)) (sym (all_sections sections))
    (later_filter (λ (r t : PlacedOutput). bytes_eq r.name t.name ≡ false) (λ (r : PlacedOutput).
    not (r.size == 0)) sections named))

module _ (sections : List PlacedOutput) (named : AreNamed sections) (q : PlacedOutput) (there : Contains sections q)
    (some : 0 < q.size) where
  abbrev gs : List Segment
  gs = segments sections

  abbrev fs : List SectionInFile
  fs = in_file gs

  has_size : not (q.size == 0) ≡ true
  has_size = go (q.size == 0) refl
    where
      go : (b : Bool) → (q.size == 0) ≡ b → not b ≡ true
      go false e = refl
      go true e = absurd (omega (arith, some, eqb-true q.size 0 e))

  found : Comes section_in fs q
  found = in_map section_in fs q
      (subst (λ l. Contains l q) (sym (all_sections sections))
      (filter_in (λ (r : PlacedOutput). not (r.size == 0)) sections q there has_size))

  abbrev own : SectionInFile
  own = found.origin

  names_differ : EachLater (λ (x y : SectionInFile). bytes_eq x.section.name y.section.name ≡ false) fs
  names_differ = names_apart sections named

  own_offset : file_offset gs q ≡ own.offset
  own_offset =
      ap (λ m. option_map_or (λ (x : SectionInFile). x.offset) m 0)
      (find_only (λ (x : SectionInFile). bytes_eq x.section.name q.name) fs own
      (later_imply (λ (x y : SectionInFile). bytes_eq x.section.name y.section.name
      ≡ false) (NotBoth (λ (x : SectionInFile). bytes_eq x.section.name q.name)) (λ x y h.
      one_name x.section.name y.section.name q.name h) fs names_differ)
      found.among (ap (λ (r : PlacedOutput). bytes_eq r.name q.name) found.gives ∙ same_name q.name))

  module _ (bytes : q.has_file_bytes ≡ true) where
    in_bytes : Contains (filter (λ (x : SectionInFile). x.section.has_file_bytes) fs) own
    in_bytes = filter_in (λ (x : SectionInFile). x.section.has_file_bytes) fs own found.among
        (ap (λ (r : PlacedOutput). r.has_file_bytes) found.gives ∙ bytes)

    order : AreInFileOrder gs
    order = files_in_order sections

    between : (headers_end (length gs) ≤ own.offset) × (end_in_file own ≤ loaded_end gs)
    between = member_of (λ (x : SectionInFile). (headers_end (length gs) ≤ x.offset)
        × (end_in_file x ≤ loaded_end gs)) _ own order.inside in_bytes

    past_headers : headers_end (length gs) ≤ own.offset
    past_headers = between.0

    by_end : own.offset + q.size ≤ loaded_end gs
    by_end = subst (λ (r : PlacedOutput). own.offset + r.size ≤ loaded_end gs) found.gives between.1

    -- the offset of an address of the section finds the section
    finds : (at : ℕ) → own.offset ≤ at → at < own.offset + q.size
        → find (λ (x : SectionInFile). x.section.has_file_bytes && covers x.offset x.section.size at) fs ≡ Some own
    finds at low high =
        find_filter (λ (x : SectionInFile). x.section.has_file_bytes) (λ (x : SectionInFile).
        covers x.offset x.section.size at) fs
        ∙ find_only (λ (x : SectionInFile). covers x.offset x.section.size at)
        (filter (λ (x : SectionInFile). x.section.has_file_bytes) fs) own
        (later_imply (λ (x y : SectionInFile). end_in_file x ≤ y.offset)
        (NotBoth (λ (x : SectionInFile). covers x.offset x.section.size at))
        (λ x y h. apart x.offset x.section.size y.offset y.section.size at h) _ order.ascend)
        in_bytes (ap (λ (r : PlacedOutput). covers own.offset r.size at) found.gives
        ∙ covering own.offset q.size at low high)

-- ---- the byte

module _ (p : Project) (s : Layout) (q : PlacedOutput) (x : PlacedPiece) (i : ℕ) (spread : Each IsSpread s.sections)
    (named : AreNamed s.sections)
    (there : Contains s.sections q) (bytes : q.has_file_bytes ≡ true) (among : Contains q.pieces x)
    (low : i < x.piece.size) where
  own_spread : IsSpread q
  own_spread = member_of IsSpread s.sections q spread there

  inside : (q.start ≤ x.start) × (piece_end x ≤ q.start + q.size)
  inside = member_of (λ (y : PlacedPiece). (q.start ≤ y.start) × (piece_end y ≤ q.start + q.size)) q.pieces x
      own_spread.pieces_inside among

  some : 0 < q.size
  some = omega (arith, inside.0, inside.1, low)

  abbrev file : SectionInFile
  file = own s.sections named q there some

  abbrev at : ℕ
  at = offset_in_file (segments s.sections) q x + i

  at_is : at ≡ file.offset + (x.start - q.start) + i
  at_is = ap (λ n. n + (x.start - q.start) + i) (own_offset s.sections named q there some)

  -- it lies in the loaded part
  pub before_end : at < loaded_end (segments s.sections)
  before_end = omega (arith, at_is, inside.0, inside.1, low, by_end s.sections named q there some bytes)

  section_found : file_section_at s at ≡ Some file
  section_found =
      finds s.sections named q there some bytes at (omega (arith, at_is))
      (omega (arith, at_is, inside.0, inside.1, low))

  not_header : nat_lt at (length (file_headers p s)) ≡ false
  not_header = le-ltb at (length (file_headers p s))
      (omega (arith, at_is, length_headers p s, past_headers s.sections named q there some bytes))

  address : q.start + (at - file.offset) ≡ x.start + i
  address = omega (arith, at_is, inside.0)

  piece_found : covering_piece q (x.start + i) ≡ Some x
  piece_found =
      find_only (λ (y : PlacedPiece). covers y.start y.piece.size (x.start + i)) q.pieces x
      (later_imply (λ (y z : PlacedPiece).
      piece_end y ≤ z.start) (NotBoth (λ (y : PlacedPiece). covers y.start y.piece.size (x.start + i)))
      (λ y z h. apart y.start y.piece.size z.start z.piece.size (x.start + i) h) q.pieces own_spread.pieces_ascend)
      among (covering x.start x.piece.size (x.start + i) (omega arith) (omega (arith, low)))

  pub byte_of_piece : byte_at p s at ≡ part_byte p s x.piece.object x.piece.part x.start i
  byte_of_piece =
      by_cases p s at
      ∙ ap (λ b. cond b (slice_index (file_headers p s) at) (byte_past_headers p s at (file_section_at s at)
      (tail_at p s at)))
      not_header
      ∙ ap (λ m. byte_past_headers p s at m (tail_at p s at)) section_found
      ∙ ap (λ (r : PlacedOutput). output_byte p s r (r.start + (at - file.offset)))
      (found s.sections named q there some).gives
      ∙ ap (λ n. output_byte p s q n) address
      ∙ ap (λ m. byte_among p s q (x.start + i) m (covering_data q (x.start + i))) piece_found
      ∙ ap (λ n. part_byte p s x.piece.object x.piece.part x.start n) (let e : x.start + i - x.start ≡ i =
      omega arith in e)
