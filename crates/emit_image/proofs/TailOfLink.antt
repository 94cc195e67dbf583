-- The tail that is made of values is that of the link whose values they are.
use Rattle.emit_image.proofs.Common.{AllZip, AllZip-long, FilePart, Header, Layout, List, PlacedOutput, Project}
use Rattle.emit_image.proofs.Common.{SectionHeader, SymbolEntry, TableSection, TableSymbol, [], ap, append-nil}
use Rattle.emit_image.proofs.Common.{append_assoc, codes, end_of_part, entry_of, enumerate_from, flat_map}
use Rattle.emit_image.proofs.Common.{flat_map-cons, header_bytes, header_names_of, header_of, header_part, length}
use Rattle.emit_image.proofs.Common.{loaded_end, map, names_of, next_multiple_of, output_headers_of, part_at, refl}
use Rattle.emit_image.proofs.Common.{replicate, section_header_of, segments, string_table, sym, symbol_bytes}
use Rattle.emit_image.proofs.Common.{symbol_table_of, table_headers, tables, tail, ℕ, ◌++◌, ◌+◌, ◌∙◌, ◌∷◌, ◌≡◌}
use Rattle.ldmodel.specs.SectionHeaders.{Tables, header_names, header_name_table, output_header, section_headers}
use Rattle.ldmodel.specs.Tail.{ValuedSymbol, symbol_entry, symbol_names, symbol_name_table, output_symbol_table}
use Rattle.ldmodel.specs.Tail.{table_symbols}
use Rattle.emit_image.specs.Tables.{IsTableSection, IsTableSymbol, IsTailOf, header_part_of, tables_of, tail_of}

-- three headers that are written one after the other
pub three : (out a b c : List ℕ) (f g h : Header) (x y z : SectionHeader) → a ≡ out ++ header_bytes (header_of f) → b
    ≡ a ++ header_bytes (header_of g) → c ≡ b ++ header_bytes (header_of h)
    → header_of f ≡ x → header_of g ≡ y → header_of h ≡ z → c ≡ out ++ flat_map header_bytes (x ∷ y ∷ z ∷ [])
three out a b c f g h x y z ea eb ec ex ey ez =
    let first : a ≡ out ++ header_bytes x = ea ∙ ap (λ (t : SectionHeader). out ++ header_bytes t) ex in
    let second : b ≡ out ++ header_bytes x ++ header_bytes y = eb ∙ ap (λ (t : SectionHeader). a ++ header_bytes t) ey
    ∙ ap (λ (bs : List ℕ). bs ++ header_bytes y) first in
    let third : c ≡ out ++ header_bytes x ++ header_bytes y ++ header_bytes z = ec
    ∙ ap (λ (t : SectionHeader). b ++ header_bytes t) ez ∙ ap (λ (bs : List ℕ). bs ++ header_bytes z) second in
    third
    ∙ append_assoc (out ++ header_bytes x) (header_bytes y) (header_bytes z)
    ∙ append_assoc out (header_bytes x) (header_bytes y ++ header_bytes z)
    ∙ ap (λ (bs : List ℕ). out ++ (header_bytes x ++ (header_bytes y ++ bs))) (sym (append-nil (header_bytes z)))

-- the parts of the tail, from what they are made of
pub parts_are : (end : ℕ) (xs : List TableSymbol) (ys : List TableSection) (a b c d : FilePart)
    (entries names strings headers : List ℕ)
    → entries ≡ symbol_table_of xs → names ≡ string_table (names_of xs) → strings ≡ string_table (header_names_of ys)
    → a ≡ part_at (next_multiple_of end 8) entries → b ≡ part_at (end_of_part a) names → c
    ≡ part_at (end_of_part b) strings
    → headers ≡ output_headers_of ys
    ++ flat_map header_bytes
    (table_headers (length ys) (header_names_of ys) (record { symbols = a; symbol_names = b; header_names = c }))
    → d ≡ part_at (next_multiple_of (end_of_part c) 8) headers → a ∷ b ∷ c ∷ d ∷ [] ≡ tail_of end xs ys
unfolding tables_of header_part_of
parts_are end xs ys a b c d entries names strings headers e n s ea eb ec eh ed =
    let one : a ≡ part_at (next_multiple_of end 8) (symbol_table_of xs) = ea
    ∙ ap (λ (bs : List ℕ). part_at (next_multiple_of end 8) bs) e in
    let two : b ≡ part_at (end_of_part (part_at (next_multiple_of end 8) (symbol_table_of xs)))
    (string_table (names_of xs)) =
    eb ∙ ap (λ (bs : List ℕ). part_at (end_of_part a) bs) n
    ∙ ap (λ (x : FilePart). part_at (end_of_part x) (string_table (names_of xs))) one in
    let last : c ≡ part_at
    (end_of_part (part_at (end_of_part (part_at (next_multiple_of end 8) (symbol_table_of xs)))
    (string_table (names_of xs)))) (string_table (header_names_of ys)) =
    ec ∙ ap (λ (bs : List ℕ). part_at (end_of_part b) bs) s
    ∙ ap (λ (x : FilePart). part_at (end_of_part x) (string_table (header_names_of ys))) two in
    let same : d ≡ part_at (next_multiple_of (end_of_part c) 8) (output_headers_of ys
    ++ flat_map header_bytes
    (table_headers (length ys) (header_names_of ys) (record { symbols = a; symbol_names = b; header_names = c }))) =
    ed ∙ ap (λ (bs : List ℕ). part_at (next_multiple_of (end_of_part c) 8) bs) eh in
    ap (λ (x : FilePart). a ∷ b ∷ c ∷ x ∷ []) same
    ∙ ap (λ (x : FilePart). built x b c) one
    ∙ ap (λ (x : FilePart). built (part_at (next_multiple_of end 8) (symbol_table_of xs)) x c) two
    ∙ ap (λ (x : FilePart).
    built (part_at (next_multiple_of end 8) (symbol_table_of xs))
    (part_at (end_of_part (part_at (next_multiple_of end 8) (symbol_table_of xs))) (string_table (names_of xs))) x)
    last
  where
    built : FilePart → FilePart → FilePart → List FilePart
    built x y z = x ∷ y ∷ z ∷ part_at (next_multiple_of (end_of_part z) 8) (output_headers_of ys
        ++ flat_map header_bytes
        (table_headers (length ys) (header_names_of ys) (record { symbols = x; symbol_names = y; header_names = z })))
        ∷ []

module _ (p : Project) (s : Layout) where
  names_same : (zs : List ValuedSymbol) (xs : List TableSymbol) → AllZip (IsTableSymbol p s) zs xs → names_of xs
      ≡ map (λ (x : ValuedSymbol). x.name) zs
  names_same [] [] h = refl
  names_same [] (x ∷ xs) h = absurd h
  names_same (z ∷ zs) [] h = absurd h
  names_same (z ∷ zs) (x ∷ xs) h = ap (λ (n : List ℕ). n ∷ names_of xs) h.0.name
      ∙ ap (λ (ns : List (List ℕ)). z.name ∷ ns) (names_same zs xs h.1)

  entry_same : (n : ℕ) (z : ValuedSymbol) (x : TableSymbol) → IsTableSymbol p s z x
      → entry_of (symbol_names p s) (n, x) ≡ symbol_entry p s (n, z)
  entry_same n z x h = rw (h.binding, h.type, h.section, h.value, h.size) refl

  entries_same : (n : ℕ) (zs : List ValuedSymbol) (xs : List TableSymbol) → AllZip (IsTableSymbol p s) zs xs
      → flat_map (λ x. symbol_bytes (entry_of (symbol_names p s) x)) (enumerate_from n xs)
      ≡ flat_map (λ x. symbol_bytes (symbol_entry p s x)) (enumerate_from n zs)
  entries_same n [] [] h = refl
  entries_same n [] (x ∷ xs) h = absurd h
  entries_same n (z ∷ zs) [] h = absurd h
  entries_same n (z ∷ zs) (x ∷ xs) h =
      flat_map-cons (λ x. symbol_bytes (entry_of (symbol_names p s) x)) (n, x) (enumerate_from (n + 1) xs)
      ∙ ap (λ (e : SymbolEntry). symbol_bytes e
      ++ flat_map (λ x. symbol_bytes (entry_of (symbol_names p s) x)) (enumerate_from (n + 1) xs))
      (entry_same n z x h.0)
      ∙ ap (λ (bs : List ℕ). symbol_bytes (symbol_entry p s (n, z)) ++ bs) (entries_same (n + 1) zs xs h.1)
      ∙ sym (flat_map-cons (λ x. symbol_bytes (symbol_entry p s x)) (n, z) (enumerate_from (n + 1) zs))

  own_same : (qs : List PlacedOutput) (ys : List TableSection) → AllZip (IsTableSection s) qs ys
      → map (λ (y : TableSection). y.name.now) ys ≡ map (λ (q : PlacedOutput). q.name) qs
  own_same [] [] h = refl
  own_same [] (y ∷ ys) h = absurd h
  own_same (q ∷ qs) [] h = absurd h
  own_same (q ∷ qs) (y ∷ ys) h = ap (λ (n : List ℕ). n ∷ map (λ (y : TableSection). y.name.now) ys) h.0.name
      ∙ ap (λ (ns : List (List ℕ)). q.name ∷ ns) (own_same qs ys h.1)

  header_same : (n : ℕ) (q : PlacedOutput) (y : TableSection) → IsTableSection s q y
      → section_header_of (header_names s) (n, y) ≡ output_header s (segments s.sections) (n, q)
  header_same n q y h = rw (h.placed, h.offset) refl

  headers_same : (n : ℕ) (qs : List PlacedOutput) (ys : List TableSection) → AllZip (IsTableSection s) qs ys
      → flat_map (λ x. header_bytes (section_header_of (header_names s) x)) (enumerate_from n ys)
      ≡ flat_map (λ x. header_bytes (output_header s (segments s.sections) x)) (enumerate_from n qs)
  headers_same n [] [] h = refl
  headers_same n [] (y ∷ ys) h = absurd h
  headers_same n (q ∷ qs) [] h = absurd h
  headers_same n (q ∷ qs) (y ∷ ys) h =
      flat_map-cons (λ x. header_bytes (section_header_of (header_names s) x)) (n, y) (enumerate_from (n + 1) ys)
      ∙ ap (λ (e : SectionHeader). header_bytes e
      ++ flat_map (λ x. header_bytes (section_header_of (header_names s) x)) (enumerate_from (n + 1) ys))
      (header_same n q y h.0)
      ∙ ap (λ (bs : List ℕ). header_bytes (output_header s (segments s.sections) (n, q))
      ++ bs) (headers_same (n + 1) qs ys h.1)
      ∙ sym (flat_map-cons (λ x. header_bytes (output_header s (segments s.sections) x)) (n, q)
      (enumerate_from (n + 1) qs))

  table_same : (xs : List TableSymbol) → AllZip (IsTableSymbol p s) (table_symbols p s) xs → symbol_table_of xs
      ≡ output_symbol_table p s
  unfolding symbol_table_of output_symbol_table
  table_same xs h =
      let e : names_of xs ≡ symbol_names p s = names_same (table_symbols p s) xs h in
      ap (λ (ns : List (List ℕ)). replicate 24 0 ++ flat_map (λ x. symbol_bytes (entry_of ns x)) (enumerate_from 0 xs))
      e
      ∙ ap (λ (bs : List ℕ). replicate 24 0 ++ bs) (entries_same 0 (table_symbols p s) xs h)

  symbol_strings_same : (xs : List TableSymbol) → AllZip (IsTableSymbol p s) (table_symbols p s) xs
      → string_table (names_of xs) ≡ symbol_name_table p s
  unfolding symbol_name_table
  symbol_strings_same xs h = ap string_table (names_same (table_symbols p s) xs h)

  header_names_same : (ys : List TableSection) → AllZip (IsTableSection s) s.sections ys → header_names_of ys
      ≡ header_names s
  header_names_same ys h =
      ap (λ (ns : List (List ℕ)). ns ++ codes ".symtab" ∷ codes ".strtab" ∷ codes ".shstrtab" ∷ [])
      (own_same s.sections ys h)

  header_strings_same : (ys : List TableSection) → AllZip (IsTableSection s) s.sections ys
      → string_table (header_names_of ys) ≡ header_name_table s
  unfolding header_name_table
  header_strings_same ys h = ap string_table (header_names_same ys h)

  abbrev tables_from : ℕ → (entries names strings : List ℕ) → Tables
  tables_from end entries names strings =
      let symbols : FilePart = part_at (next_multiple_of end 8) entries in
      let symbol_names : FilePart = part_at (end_of_part symbols) names in
      record {
        symbols = symbols;
        symbol_names = symbol_names;
        header_names =
            part_at (end_of_part symbol_names) strings;
      }

  from_values : (end : ℕ) (xs : List TableSymbol) (ys : List TableSection) → tables_of end xs ys
      ≡ tables_from end (symbol_table_of xs) (string_table (names_of xs)) (string_table (header_names_of ys))
  unfolding tables_of
  from_values end xs ys = refl

  from_link : tables p s
      ≡ tables_from (loaded_end (segments s.sections)) (output_symbol_table p s) (symbol_name_table p s)
      (header_name_table s)
  unfolding tables
  from_link = refl

  tables_same : (end : ℕ) (xs : List TableSymbol) (ys : List TableSection) → IsTailOf p s end xs ys
      → tables_of end xs ys ≡ tables p s
  tables_same end xs ys h =
      from_values end xs ys
      ∙ ap (λ (n : ℕ). tables_from n (symbol_table_of xs) (string_table (names_of xs))
      (string_table (header_names_of ys))) h.begins
      ∙ ap (λ (bs : List ℕ).
      tables_from (loaded_end (segments s.sections)) bs (string_table (names_of xs))
      (string_table (header_names_of ys))) (table_same xs h.symbols)
      ∙ ap (λ (bs : List ℕ).
      tables_from (loaded_end (segments s.sections)) (output_symbol_table p s) bs (string_table (header_names_of ys)))
      (symbol_strings_same xs h.symbols)
      ∙ ap (λ (bs : List ℕ).
      tables_from (loaded_end (segments s.sections)) (output_symbol_table p s) (symbol_name_table p s) bs)
      (header_strings_same ys h.sections)
      ∙ sym from_link

  output_same : (ys : List TableSection) → AllZip (IsTableSection s) s.sections ys → output_headers_of ys
      ≡ replicate 64 0 ++ flat_map (λ x. header_bytes (output_header s (segments s.sections) x))
      (enumerate_from 0 s.sections)
  unfolding output_headers_of
  output_same ys h =
      ap (λ (ns : List (List ℕ)). replicate 64 0
      ++ flat_map (λ x. header_bytes (section_header_of ns x)) (enumerate_from 0 ys)) (header_names_same ys h)
      ∙ ap (λ (bs : List ℕ). replicate 64 0 ++ bs) (headers_same 0 s.sections ys h)

  abbrev headers_part : Tables → (front : List ℕ) → (count : ℕ) → (names : List (List ℕ)) → FilePart
  headers_part t front count names =
      part_at (next_multiple_of (end_of_part t.header_names) 8) (front
      ++ flat_map header_bytes (table_headers count names t))

  part_from_values : (end : ℕ) (xs : List TableSymbol) (ys : List TableSection) → header_part_of end xs ys
      ≡ headers_part (tables_of end xs ys) (output_headers_of ys) (length ys) (header_names_of ys)
  unfolding header_part_of
  part_from_values end xs ys = refl

  part_from_link : header_part p s
      ≡ headers_part (tables p s) (replicate 64 0
      ++ flat_map (λ x. header_bytes (output_header s (segments s.sections) x)) (enumerate_from 0 s.sections))
      (length s.sections) (header_names s)
  unfolding header_part section_headers
  part_from_link = refl

  header_part_same : (end : ℕ) (xs : List TableSymbol) (ys : List TableSection) → IsTailOf p s end xs ys
      → header_part_of end xs ys ≡ header_part p s
  header_part_same end xs ys h =
      let front : List ℕ = replicate 64 0
      ++ flat_map (λ x. header_bytes (output_header s (segments s.sections) x)) (enumerate_from 0 s.sections) in
      part_from_values end xs ys
      ∙ ap (λ (t : Tables). headers_part t (output_headers_of ys) (length ys) (header_names_of ys))
      (tables_same end xs ys h)
      ∙ ap (λ (bs : List ℕ). headers_part (tables p s) bs (length ys) (header_names_of ys)) (output_same ys h.sections)
      ∙ ap (λ (n : ℕ). headers_part (tables p s) front n (header_names_of ys))
      (AllZip-long (IsTableSection s) s.sections ys h.sections)
      ∙ ap (λ (ns : List (List ℕ)). headers_part (tables p s) front (length s.sections) ns)
      (header_names_same ys h.sections)
      ∙ sym part_from_link

  pub tail_same : (end : ℕ) (xs : List TableSymbol) (ys : List TableSection) → IsTailOf p s end xs ys
      → tail_of end xs ys ≡ tail p s
  tail_same end xs ys h =
      ap (λ (t : Tables). t.symbols ∷ t.symbol_names ∷ t.header_names ∷ header_part_of end xs ys ∷ [])
      (tables_same end xs ys h)
      ∙ ap (λ (x : FilePart). (tables p s).symbols ∷ (tables p s).symbol_names ∷ (tables p s).header_names ∷ x ∷ [])
      (header_part_same end xs ys h)
