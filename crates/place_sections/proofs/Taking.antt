-- An output section that is taken over is the one that its statement makes.
use Rattle.place_sections.proofs.Common.{Begins, HasSection, HasStarts, IsTaken, KeyedSection, Layout, Leads, List}
use Rattle.place_sections.proofs.Common.{Naming, NumberedData, OutputSection, Placed, PlacedData, PlacedOutput}
use Rattle.place_sections.proofs.Common.{PlacedPiece, ReusablePlacement, Some, Statement, [], all_data_in, ap}
use Rattle.place_sections.proofs.Common.{append-nil, append_assoc, arith, counts_of, data_at, data_at_of, data_of, drop}
use Rattle.place_sections.proofs.Common.{drop-append_seam, earlier_of, enumerate_from, flat_map, flat_map-append}
use Rattle.place_sections.proofs.Common.{length, length-append, length-map, map, map-append, numbered, part_of}
use Rattle.place_sections.proofs.Common.{piece_at, piece_named, placed_of, refl, row_named, section_of, section_step}
use Rattle.place_sections.proofs.Common.{slice_get, slice_get_within, starts_in, starts_of, subst, sym, take}
use Rattle.place_sections.proofs.Common.{take-append_seam, taken_pieces, ℕ, ◌++◌, ◌+◌, ◌<◌, ◌^◌, ◌∙◌, ◌∷◌, ◌≡◌, ◌≤◌}
use Rattle.std.proofs.lemmas.Option.{get_or_from_slice_get}
use Rattle.ldmodel.specs.Rows.{Piece}
use Rattle.ldmodel.specs.declared.placed.PlacedData as code_data
use Rattle.ldmodel.specs.declared.rows.Piece as rows
use Rattle.place_sections.proofs.Adding.{SectionGrown, enumerate_more, section_grows}
use Rattle.place_sections.proofs.Beginning.{fewer_begin, mapped_part}
use Rattle.place_sections.proofs.Grows.{the_piece}
use Rattle.place_sections.proofs.Wholes.{data_whole, starts_whole}
use Rattle.place_sections.specs.Boundaries.{data_in}

-- the one after the first ones of a list
pub after_first : {X : Type 0} (xs : List X) (x : X) (ys : List X) → slice_get (xs ++ x ∷ ys) (length xs) ≡ Some x
after_first [] x ys = refl
after_first (y ∷ xs) x ys = after_first xs x ys

-- the part of a list that follows some of its first elements
next_part : {X : Type 0} (xs more ys all : List X) (from count : ℕ) → ys ≡ xs ++ more → Begins ys all
    → from ≡ length xs
    → count ≡ length more → part_of all from count ≡ more
next_part xs more ys all from count e b f c =
    let whole : all ≡ xs ++ (more ++ b.later) =
    b.is ∙ (ap (λ l. l ++ b.later) e ∙ append_assoc xs more b.later) in
    ap (λ k. take count (drop k all)) f
    ∙ (ap (λ l. take count (drop (length xs) l)) whole
    ∙ (ap (take count) (drop-append_seam xs (more ++ b.later))
    ∙ (ap (λ k. take k (more ++ b.later)) c ∙ take-append_seam more b.later)))

next_element : {X : Type 0} (xs : List X) (x : X) (ys all : List X) (from : ℕ) → ys ≡ xs ++ x ∷ [] → Begins ys all
    → from ≡ length xs → slice_get all from ≡ Some x
next_element xs x ys all from e b f =
    ap (slice_get all) f
    ∙ (ap (λ l. slice_get l (length xs)) (b.is ∙ (ap (λ l. l ++ b.later) e ∙ append_assoc xs (x ∷ []) b.later))
    ∙ after_first xs x b.later)

-- input sections by their starts, and their row
by_starts : (n : Naming) (qs : List PlacedPiece) (row : List rows.Piece) (rest : List Piece)
    → map the_piece qs ++ rest ≡ row_named n row
    → map (piece_at n) (taken_pieces (map (λ (x : PlacedPiece). x.start) qs) row) ≡ qs
by_starts n [] row rest e = refl
by_starts n (q ∷ qs) [] rest e = absurd (let no : ⊥ = cc in no)
by_starts n (q ∷ qs) (p ∷ ps) rest e =
    let first : q.piece ≡ piece_named n p = cc in
    let others : map the_piece qs ++ rest ≡ row_named n ps = cc in
    ap (λ z. record { start = q.start; piece = z } ∷ map (piece_at n) (taken_pieces (map (λ (x : PlacedPiece).
    x.start) qs) ps)) (sym first)
    ∙ ap (λ l. q ∷ l) (by_starts n qs ps rest others)

abbrev plain : NumberedData → PlacedData
plain d = record { start = d.start; bytes = d.bytes }

plain_data : (ds : List code_data.PlacedData) → map data_at (map data_at_of ds) ≡ map plain (map data_of ds)
plain_data [] = refl
plain_data (d ∷ ds) = ap (λ l. data_at (data_at_of d) ∷ l) (plain_data ds)

plain_numbered : (k : ℕ) (q : PlacedOutput) → map plain (numbered (k, q)) ≡ q.data_commands
plain_numbered k q = go q.data_commands
  where
    go : (ds : List PlacedData)
        → map plain (map (λ (d : PlacedData). record { section = k; start = d.start; bytes = d.bytes }) ds) ≡ ds
    go [] = refl
    go (d ∷ ds) = ap (λ l. d ∷ l) (go ds)

module _ (n : Naming) (script : List Statement) (k : ReusablePlacement) (provided : List (List ℕ))
    (row : List rows.Piece)
    (s : Layout) (line : ℕ) (o : OutputSection) (before : List KeyedSection)
    (sections : s.sections ≡ map (section_of n) before)
    (l : Leads script k (section_step provided (row_named n row) s line o)) where
  abbrev t : Layout
  t = l.layout

  pub grown : SectionGrown (row_named n row) s o t
  grown = section_grows provided (row_named n row) s line o t l.comes

  abbrev pub q : PlacedOutput
  q = grown.section

  many : length before ≡ length s.sections
  many = sym (ap length sections ∙ length-map before (section_of n))

  pub placed_is : (p : Placed) → slice_get k.previous.sections.now (length before) ≡ Some p → p ≡ placed_of q
  placed_is p e =
      let at = next_element (map placed_of s.sections) (placed_of q) (map placed_of t.sections) k.previous.sections.now
      (length before) (ap (map placed_of) grown.added ∙ map-append placed_of s.sections (q ∷ [])) l.sections
      (many ∙ sym (length-map s.sections placed_of)) in
      cc

  count_there : slice_get k.previous.counts.now (length before) ≡ Some (length q.pieces)
  count_there =
      next_element (counts_of s.sections) (length q.pieces) (counts_of t.sections) k.previous.counts.now
      (length before) (ap counts_of grown.added
      ∙ map-append (λ (x : PlacedOutput). length x.pieces) s.sections (q ∷ [])) l.counts
      (many ∙ sym (length-map s.sections (λ (x : PlacedOutput). length x.pieces)))

  pub count_is : (m : ℕ) → slice_get k.previous.counts.now (length before) ≡ Some m → m ≡ length q.pieces
  count_is m e = let at = count_there in cc

  pub starts_are : (m : ℕ) → m ≡ length q.pieces
      → part_of k.previous.starts.now (length (starts_in before)) m ≡ starts_of q
  starts_are m e =
      next_part (flat_map starts_of s.sections) (starts_of q) (flat_map starts_of t.sections) k.previous.starts.now
      (length (starts_in before)) m
      (ap (flat_map starts_of) grown.added
      ∙ (flat_map-append starts_of s.sections (q ∷ [])
      ∙ ap (λ x. flat_map starts_of s.sections ++ x) (append-nil (starts_of q))))
      l.starts
      (ap length (starts_whole n before ∙ ap (flat_map starts_of) (sym sections)))
      (e ∙ sym (length-map q.pieces (λ (x : PlacedPiece). x.start)))

  whole : data_in t.sections ≡ data_in s.sections ++ numbered (length s.sections, q)
  whole =
      let last : enumerate_from 0 t.sections ≡ enumerate_from 0 s.sections ++ (length s.sections, q) ∷ [] =
      ap (enumerate_from 0) grown.added
      ∙ (enumerate_more 0 s.sections (q ∷ [])
      ∙ (let e : 0 + length s.sections ≡ length s.sections = omega arith in
      ap (λ j. enumerate_from 0 s.sections ++ (j, q) ∷ []) e)) in
      ap (flat_map numbered) last
      ∙ (flat_map-append numbered (enumerate_from 0 s.sections) ((length s.sections, q) ∷ [])
      ∙ ap (λ x. data_in s.sections ++ x) (append-nil (numbered (length s.sections, q))))

  before_long : length (all_data_in 0 before) ≡ length (data_in s.sections)
  before_long = ap length (data_whole n 0 before ∙ ap data_in (sym sections))

  starts_within : length (starts_in before) + length q.pieces ≤ length k.previous.starts.now
  starts_within =
      let all = ap length (ap (flat_map starts_of) grown.added
      ∙ (flat_map-append starts_of s.sections (q ∷ [])
      ∙ ap (λ x. flat_map starts_of s.sections ++ x) (append-nil (starts_of q))))
      ∙ length-append (flat_map starts_of s.sections) (starts_of q) in
      let own = length-map q.pieces (λ (x : PlacedPiece). x.start) in
      let old = ap length (starts_whole n before ∙ ap (flat_map starts_of) (sym sections)) in
      let few = fewer_begin (flat_map starts_of t.sections) k.previous.starts.now l.starts in
      omega (arith, all, own, old, few)

  -- the previous layout has where its input sections start
  pub has_starts : HasStarts (earlier_of k.previous) (length before) (length (starts_in before))
  has_starts = record { count = length q.pieces; counted = count_there; within = starts_within }

  -- the previous layout has it
  pub has_section : HasSection (earlier_of k.previous) (length before) (length (starts_in before)) row
  has_section =
      let there : slice_get k.previous.sections.now (length before) ≡ Some (placed_of q) =
      next_element (map placed_of s.sections) (placed_of q) (map placed_of t.sections) k.previous.sections.now
      (length before) (ap (map placed_of) grown.added ∙ map-append placed_of s.sections (q ∷ [])) l.sections
      (many ∙ sym (length-map s.sections placed_of)) in
      record {
        placed = placed_of q;
        there = there;
        fits = subst (λ (p : Placed). p.start + p.size < 2 ^ 64)
            (get_or_from_slice_get k.previous.sections.now (length before) (placed_of q) (placed_of q) there)
            (l.ends (length before) (placed_of q)
            (slice_get_within k.previous.sections.now (length before) (placed_of q) there));
        starts = record { count = length q.pieces; counted = count_there; within = starts_within };
        enough =
            let is = ap length grown.row_is in
            let long = length-append (map the_piece q.pieces) grown.rest in
            let own = length-map q.pieces the_piece in
            let named = length-map row (piece_named n) in
            omega (arith, is, long, own, named);
      }

  -- as many data commands as come with the section
  own_data : (count end : ℕ) → length (all_data_in 0 before) + count ≡ end → end ≡ length (data_in t.sections)
      → count ≡ length (numbered (length s.sections, q))
  own_data count end e f =
      let g = ap length whole ∙ length-append (data_in s.sections) (numbered (length s.sections, q)) in
      omega (arith, e, f, g, before_long)

  -- the previous layout has them
  pub data_within : (end : ℕ) → end ≡ length (data_in t.sections) → end ≤ length k.previous.data_commands.now
  data_within end e =
      let few = fewer_begin (data_in t.sections) (map data_of k.previous.data_commands.now) l.data_commands in
      let long = length-map k.previous.data_commands.now data_of in
      omega (arith, e, few, long)

  pub data_begun : (end : ℕ) → end ≡ length (data_in t.sections) → length (all_data_in 0 before) ≤ end
  data_begun end e =
      let g = ap length whole ∙ length-append (data_in s.sections) (numbered (length s.sections, q)) in
      omega (arith, e, g, before_long)

  data_are : (count : ℕ) → count ≡ length (numbered (length s.sections, q))
      → map data_at (map data_at_of (part_of k.previous.data_commands.now (length (all_data_in 0 before)) count))
      ≡ q.data_commands
  data_are count long =
      let from : ℕ = length (all_data_in 0 before) in
      plain_data (part_of k.previous.data_commands.now from count)
      ∙ (ap (map plain)
      (mapped_part data_of k.previous.data_commands.now from count
      ∙ next_part (data_in s.sections) (numbered (length s.sections, q)) (data_in t.sections)
      (map data_of k.previous.data_commands.now) from count whole l.data_commands before_long long)
      ∙ plain_numbered (length s.sections) q)

  -- the section, whose numbers are those of the layout
  pub section_taken : (x : KeyedSection) (end : ℕ) → IsTaken (earlier_of k.previous) before row o end x
      → end ≡ length (data_in t.sections)
      → (section_of n x ≡ q) × (x.placed ≡ placed_of q)
  section_taken x end i e =
      let p = placed_is x.placed i.placed in
      let m = count_is i.count i.counted in
      let ps : map (piece_at n) x.pieces ≡ q.pieces =
      ap (map (piece_at n)) (i.pieces ∙ ap (λ z. taken_pieces z row) (starts_are i.count m))
      ∙ by_starts n q.pieces row grown.rest grown.row_is in
      let ds : map data_at x.data_commands ≡ q.data_commands =
      ap (map data_at) i.data_commands ∙ data_are i.data_count (own_data i.data_count end i.data_counted e) in
      (rw (i.name ∙ sym grown.name, i.region ∙ sym grown.region, i.fill ∙ sym grown.fill, p, ps, ds) refl, p)
