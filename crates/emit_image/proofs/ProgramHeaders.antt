-- The program headers of segments of the code are those of the segments that they stand for.
use Rattle.emit_image.proofs.Common.{AllZip, AllZip-long, Bool, Layout, List, PlacedOutput, Project, [], ap, cond}
use Rattle.emit_image.proofs.Common.{false, file_end_of, file_headers, flat_map, fold, header_part, insert_by, length}
use Rattle.emit_image.proofs.Common.{loaded_end, nat_lt, refl, segment_bytes, segment_start, segments, sort_by}
use Rattle.emit_image.proofs.Common.{starts_before, take, take_all, true, ℕ, ◌*◌, ◌++◌, ◌+◌, ◌==◌, ◌∙◌, ◌∷◌, ◌≡◌, ◌≤◌}
use Rattle.std.specs.Ordering.{is_lt, nat_cmp}
use Rattle.std.specs.declared.cmp.Ordering.TheVariants.{Less, Equal, Greater}
use Rattle.ldmodel.specs.Headers.{elf_header, program_header, ascending}
use Rattle.ldmodel.specs.SymbolValues.{entry_point, number_or_0}
use Rattle.ldmodel.specs.PlacementView.{IsSegment, AreSegments}
use Rattle.ldmodel.specs.Segments.{Segment, file_end}
use Rattle.ldmodel.specs.declared.segment.Segment as code

abbrev pub lower : Segment → Segment → Bool
lower g h = nat_lt (segment_start g) (segment_start h)

less : (a b : ℕ) → is_lt (nat_cmp a b) ≡ nat_lt a b
less a b = go (nat_lt a b)
  where
    go : (t : Bool) → is_lt (cond t Less (cond (a == b) Equal Greater)) ≡ t
    go true = refl
    go false = last (a == b)
      where
        last : (t : Bool) → is_lt (cond t Equal Greater) ≡ false
        last true = refl
        last false = refl

same_test : (sections : List PlacedOutput) (g h : Segment) (x y : code.Segment) → IsSegment sections g x
    → IsSegment sections h y → starts_before x y ≡ lower g h
same_test sections g h x y a b = rw (a.start, b.start) (less (segment_start g) (segment_start h))

module _ (sections : List PlacedOutput) where
  inserted : (g : Segment) (x : code.Segment) (gs : List Segment) (xs : List code.Segment) → IsSegment sections g x
      → AllZip (IsSegment sections) gs xs
      → AllZip (IsSegment sections) (insert_by lower g gs) (insert_by starts_before x xs)
  inserted g x [] [] a zs = (a, tt)
  inserted g x [] (y ∷ ys) a zs = absurd zs
  inserted g x (h ∷ gs) [] a zs = absurd zs
  inserted g x (h ∷ gs) (y ∷ ys) a zs =
      go (lower h g) (starts_before y x) (same_test sections h g y x zs.0 a) (inserted g x gs ys a zs.1)
    where
      go : (b c : Bool) → c ≡ b → AllZip (IsSegment sections) (insert_by lower g gs) (insert_by starts_before x ys)
          → AllZip (IsSegment sections) (cond b (h ∷ insert_by lower g gs) (g ∷ h ∷ gs))
          (cond c (y ∷ insert_by starts_before x ys) (x ∷ y ∷ ys))
      go true true e rest = (zs.0, rest)
      go false false e rest = (a, zs)
      go true false e rest = cc
      go false true e rest = cc

  sorted : (gs : List Segment) (xs : List code.Segment) → AllZip (IsSegment sections) gs xs
      → AllZip (IsSegment sections) (sort_by lower gs) (sort_by starts_before xs)
  unfolding sort_by
  sorted [] [] zs = tt
  sorted [] (y ∷ ys) zs = absurd zs
  sorted (g ∷ gs) [] zs = absurd zs
  sorted (g ∷ gs) (y ∷ ys) zs = inserted g y (sort_by lower gs) (sort_by starts_before ys) zs.0 (sorted gs ys zs.1)

  same_header : (g : Segment) (x : code.Segment) → IsSegment sections g x → segment_bytes x ≡ program_header g
  unfolding segment_bytes program_header
  same_header g x a = rw (a.offset, a.start, a.load, a.in_file, a.in_memory, a.writable, a.executable) refl

  same_headers : (gs : List Segment) (xs : List code.Segment) → AllZip (IsSegment sections) gs xs
      → flat_map segment_bytes xs ≡ flat_map program_header gs
  same_headers [] [] zs = refl
  same_headers [] (y ∷ ys) zs = absurd zs
  same_headers (g ∷ gs) [] zs = absurd zs
  same_headers (g ∷ gs) (y ∷ ys) zs =
      ap (λ h. h ++ flat_map segment_bytes ys) (same_header g y zs.0)
      ∙ ap (λ t. program_header g ++ t) (same_headers gs ys zs.1)

  -- the program headers of a link
  pub program_headers_of : (gs : List Segment) (xs : List code.Segment) → AllZip (IsSegment sections) gs xs
      → flat_map segment_bytes (sort_by starts_before xs) ≡ flat_map program_header (ascending gs)
  program_headers_of gs xs zs = same_headers (sort_by lower gs) (sort_by starts_before xs) (sorted gs xs zs)

pub headers_are : (p : Project) (s : Layout) (entry table count : ℕ) (xs : List code.Segment)
    → AreSegments s.sections (segments s.sections) xs → entry ≡ number_or_0 (entry_point p s)
    → table ≡ (header_part p s).offset → count ≡ length s.sections
    → elf_header entry (length xs) table (count + 4) (count + 3) ++ flat_map segment_bytes (sort_by starts_before xs)
    ≡ file_headers p s
unfolding file_headers
headers_are p s entry table count xs segs e t n =
    rw (e, t, n, AllZip-long (IsSegment s.sections) (segments s.sections) xs segs)
    (ap (λ z. elf_header (number_or_0 (entry_point p s)) (length (segments s.sections)) ((header_part p s).offset)
    (length s.sections + 4) (length s.sections + 3) ++ z)
    (program_headers_of s.sections (segments s.sections) xs segs))

folded : (sections : List PlacedOutput) (end : ℕ) (gs : List Segment) (xs : List code.Segment)
    → AllZip (IsSegment sections) gs xs → fold file_end_of end xs ≡ fold file_end end gs
folded sections end [] [] h = refl
folded sections end [] (x ∷ xs) h = absurd h
folded sections end (g ∷ gs) [] h = absurd h
folded sections end (g ∷ gs) (x ∷ xs) h =
    let own : file_end_of end x ≡ file_end end g = rw (h.0.in_file, h.0.offset) refl in
    ap (λ (n : ℕ). fold file_end_of n xs) own ∙ folded sections (file_end end g) gs xs h.1

-- where the loaded part of the file ends
pub loaded_end_is : (sections : List PlacedOutput) (gs : List Segment) (xs : List code.Segment) (k end : ℕ)
    → AllZip (IsSegment sections) gs xs → length xs ≤ k → end ≡ fold file_end_of (64 + 56 * length xs) (take k xs)
    → end ≡ loaded_end gs
loaded_end_is sections gs xs k end h l e =
    e ∙ ap (λ ys. fold file_end_of (64 + 56 * length xs) ys) (take_all k xs l)
    ∙ ap (λ (n : ℕ). fold file_end_of (64 + 56 * n) xs) (AllZip-long (IsSegment sections) gs xs h)
    ∙ folded sections (64 + 56 * length gs) gs xs h
