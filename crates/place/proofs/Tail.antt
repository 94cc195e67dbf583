-- The length of the image's tail.
use Rattle.place.proofs.Common.{AreSegments, Follow, IsSegment, Layout, List, PlacedOutput, Project, [], ap, arith}
use Rattle.place.proofs.Common.{enumerate_from, flat_map, fold, groups, length, length-append, nonempty, past, refl}
use Rattle.place.proofs.Common.{segments, subst, suc, sym, ℕ, ◌*◌, ◌+◌, ◌∙◌, ◌∷◌, ◌≡◌}
use Rattle.std.proofs.lemmas.List.FromFn.{length-enumerate_from}
use Rattle.std.specs.Int.{next_multiple_of}
use Rattle.ldmodel.specs.SectionHeaders.{SectionHeader, header_bytes, header_name_table, header_names, header_part}
use Rattle.ldmodel.specs.SectionHeaders.{image_length, output_header, section_headers, table_headers, tables}
use Rattle.ldmodel.specs.Segments.{begun_from, file_end, headers_end, loaded_end, Group, Segment, begun}
use Rattle.ldmodel.specs.Tail.{symbol_bytes, symbol_entry, symbol_name_table, output_symbol_table, table_symbols}
use Rattle.ldmodel.specs.declared.segment.Segment as code
use Rattle.place.proofs.FileOffsets.{ends_are, follow_are, zip_long}

length_flat : {A B : Type 0} (f : A → List B) (n : ℕ) → ((x : A) → length (f x) ≡ n) → (xs : List A)
    → length (flat_map f xs) ≡ length xs * n
length_flat f n each [] = omega arith
length_flat f n each (x ∷ xs) = omega (arith, length-append (f x) (flat_map f xs), each x, length_flat f n each xs)

header_length : (h : SectionHeader) → length (header_bytes h) ≡ 64
header_length h = refl

pub symbol_table_length : (p : Project) (s : Layout) → length (output_symbol_table p s)
    ≡ 24 * (length (table_symbols p s) + 1)
unfolding output_symbol_table
symbol_table_length p s =
    let entries : length (flat_map (λ x. symbol_bytes (symbol_entry p s x)) (enumerate_from 0 (table_symbols p s)))
    ≡ length (enumerate_from 0 (table_symbols p s)) * 24 =
    length_flat (λ x. symbol_bytes (symbol_entry p s x)) 24 (λ x. refl) (enumerate_from 0 (table_symbols p s)) in
    omega (arith, entries, length-enumerate_from 0 (table_symbols p s))

pub headers_length : (p : Project) (s : Layout) → length (section_headers p s) ≡ 64 * (length s.sections + 4)
unfolding section_headers
headers_length p s =
    let gs : List Segment = segments s.sections in
    let those : length (flat_map (λ x. header_bytes (output_header s gs x)) (enumerate_from 0 s.sections))
    ≡ length (enumerate_from 0 s.sections) * 64 =
    length_flat (λ x. header_bytes (output_header s gs x)) 64 (λ x. refl) (enumerate_from 0 s.sections) in
    let of_tables : length (flat_map header_bytes (table_headers (length s.sections) (header_names s) (tables p s)))
    ≡ 192 =
    length_flat header_bytes 64 (λ h. refl) (table_headers (length s.sections) (header_names s) (tables p s)) in
    omega (
      arith,
      those,
      of_tables,
      length-enumerate_from 0 s.sections,
      length-append (flat_map (λ x. header_bytes (output_header s gs x)) (enumerate_from 0 s.sections))
          (flat_map header_bytes (table_headers (length s.sections) (header_names s) (tables p s))),
    )

begun_length : (end : ℕ) (gs : List Group) → length (begun_from end gs) ≡ length gs
begun_length end [] = refl
begun_length end (g ∷ gs) = ap (λ n. suc n) (begun_length (file_end end (begun end g)) gs)

-- the segments of a link follow one another
pub follow_all : (sections : List PlacedOutput) (xs : List code.Segment) → AreSegments sections (segments sections) xs
    → Follow (headers_end (length xs)) xs
unfolding segments
follow_all sections xs are =
    let gs : List Group = groups (nonempty sections) in
    let long : length gs ≡ length xs =
    sym (begun_length (headers_end (length gs)) gs)
    ∙ zip_long (IsSegment sections) (begun_from (headers_end (length gs)) gs) xs are in
    subst (λ n. Follow (headers_end n) xs) long (follow_are sections (headers_end (length gs)) gs xs are)

-- their file bytes end where the loaded part of the file does
pub loaded_is : (sections : List PlacedOutput) (xs : List code.Segment) → AreSegments sections (segments sections) xs
    → fold past (headers_end (length xs)) xs ≡ loaded_end (segments sections)
loaded_is sections xs are =
    ends_are sections (headers_end (length xs)) (segments sections) xs are
    ∙ ap (λ n. fold file_end (headers_end n) (segments sections))
    (sym (zip_long (IsSegment sections) (segments sections) xs are))

tables_add : (x y count n t names m header_names k : ℕ) → x ≡ y → count ≡ n → t ≡ 24 * (n + 1) → names ≡ m
    → header_names ≡ k
    → ((x + 24 * (count + 1)) + names) + header_names ≡ ((y + t) + m) + k
tables_add x y count n t names m header_names k at of_symbols table of_names of_headers =
    omega (arith, at, of_symbols, table, of_names, of_headers)

headers_add : (x y sections n t : ℕ) → x ≡ y → sections ≡ n → t ≡ 64 * (n + 4) → x + 64 * (sections + 4) ≡ y + t
headers_add x y sections n t at of_sections table = omega (arith, at, of_sections, table)

-- the length of an image, part by part
pub sum_is : (p : Project) (s : Layout) (loaded symbols count names header_names sections headers : ℕ)
    → loaded ≡ loaded_end (segments s.sections) → symbols ≡ next_multiple_of loaded 8
    → count ≡ length (table_symbols p s) → names ≡ length (symbol_name_table p s)
    → header_names ≡ length (header_name_table s) → sections ≡ length s.sections
    → headers ≡ next_multiple_of (((symbols + 24 * (count + 1)) + names) + header_names) 8
    → headers + 64 * (sections + 4) ≡ image_length p s
unfolding image_length header_part tables
sum_is p s loaded symbols count names header_names sections headers l a n1 n2 n3 n4 h =
    let tables_end : ((symbols + 24 * (count + 1)) + names) + header_names
    ≡ ((next_multiple_of (loaded_end (segments s.sections)) 8 + length (output_symbol_table p s)) + length
    (symbol_name_table p s))
    + length (header_name_table s) =
    tables_add _ _ _ _ _ _ _ _ _ (a ∙ ap (λ n. next_multiple_of n 8) l) n1 (symbol_table_length p s) n2 n3 in
    headers_add _ _ _ _ _ (h ∙ ap (λ n. next_multiple_of n 8) tables_end) n4 (headers_length p s)
