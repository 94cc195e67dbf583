-- What lies at the addresses of an output section.
use Rattle.emit_image.proofs.Common.{All, ArePieces, Byte, DataFrom, ImagePiece, ImageSection, IsOrderly, IsReached}
use Rattle.emit_image.proofs.Common.{List, Long, PiecesFrom, Quad, Short, Width, [], ap, arith, byte_count, covers_data}
use Rattle.emit_image.proofs.Common.{covers_piece, false, filter, get_or, inl, inr, last_end, leb_tells, length, map}
use Rattle.emit_image.proofs.Common.{nat_tests, not, piece_byte, refl, section_spot, slice_index, suc, sym, true, zero}
use Rattle.emit_image.proofs.Common.{ℕ, ◌%◌, ◌+◌, ◌-◌, ◌<◌, ◌==◌, ◌∷◌, ◌≡◌, ◌≤◌, ◌⊎◌}
use Rattle.std.proofs.lemmas.List.Elements.{All-append, All-map, Contains-append_left, Contains-append_right}
use Rattle.ldmodel.specs.declared.placed.PlacedData.{PlacedData}
use Rattle.emit_image.specs.Drawing.{AreData, data_byte, data_end, ends_in, is_full, piece_end}
use Rattle.emit_image.proofs.Found.{all-full, contains-at, contains-full, covered, find-at, find-none, last-end}
use Rattle.emit_image.proofs.Found.{not_covered, same-at}

full-some : (n : ℕ) → not (n == 0) ≡ true → 0 < n
full-some n h = grind (arith, nat_tests)

module _ (x : ImageSection) (k j at to : ℕ) (r : IsReached x k j at) (ps : PiecesFrom x k to) (ds : DataFrom x j to)
  where
    no_piece : (a i : ℕ) (y : ImagePiece) → at ≤ a → a < to → i < length x.pieces.now
        → covers_piece a (get_or x.pieces.now i y) ≡ false
    no_piece a i y l h n =
        not_covered ((get_or x.pieces.now i y).start) ((get_or x.pieces.now i y).size) a (λ some.
        elim (leb_tells (suc i) k) [
          | inl before ↦ inl (let e = r.pieces_before i y before.1 n some in omega (arith, e))
          | inr after ↦ inr (let e = ps i y (omega (arith, after.1)) n some in omega (arith, e))
        ])

    no_data : (a i : ℕ) (d : PlacedData) → at ≤ a → a < to → i < length x.data_commands.now
        → covers_data a (get_or x.data_commands.now i d) ≡ false
    no_data a i d l h n =
        not_covered ((get_or x.data_commands.now i d).start) (byte_count ((get_or x.data_commands.now i d).width)) a
        (λ some. elim (leb_tells (suc i) j) [
          | inl before ↦ inl (let e = r.data_before i d before.1 n in omega (arith, e))
          | inr after ↦ inr (let e = ds i d (omega (arith, after.1)) n in omega (arith, e))
        ])

    beyond : (a : ℕ) → at ≤ a → a < to → All (λ e. (e ≤ at) ⊎ (a < e)) (ends_in x)
    beyond a l h =
        All-append (λ e. (e ≤ at) ⊎ (a < e)) (map piece_end (filter is_full x.pieces.now))
        (map data_end x.data_commands.now)
        (All-map (λ e. (e ≤ at) ⊎ (a < e)) piece_end (filter is_full x.pieces.now)
        (all-full is_full (λ y. (piece_end y ≤ at) ⊎ (a < piece_end y)) x.pieces.now (λ i y n full.
        let some = full-some ((get_or x.pieces.now i y).size) full in
        elim (leb_tells (suc i) k) [
          | inl before ↦ inl (r.pieces_before i y before.1 n some)
          | inr after ↦ inr (let e = ps i y (omega (arith, after.1)) n some in omega (arith, e))
        ])))
        (All-map (λ e. (e ≤ at) ⊎ (a < e)) data_end x.data_commands.now (λ i d n. elim (leb_tells (suc i) j) [
          | inl before ↦ inl (r.data_before i d before.1 n)
          | inr after ↦ inr (let e = ds i d (omega (arith, after.1)) n in omega (arith, e))
        ]))

    gap_from : (a : ℕ) → at ≤ a → a < to → last_end a x.start (ends_in x) ≡ at
    gap_from a l h = last-end a x.start at (ends_in x) r.low l (beyond a l h)
        (elim r.last [ inl e ↦ inl (sym e) | inr c ↦ inr c ])

    -- a gap
    pub gap_spot : (a : ℕ) → at ≤ a → a < to → section_spot x a
        ≡ record { byte = slice_index x.fill.now ((a - at) % length x.fill.now); stays = false }
    unfolding section_spot
    gap_spot a l h =
        rw (
          find-none (covers_piece a) x.pieces.now (λ i y n. no_piece a i y l h n),
          find-none (covers_data a) x.data_commands.now (λ i d n. no_data a i d l h n),
        )
        (ap (λ (n : ℕ). record { byte = slice_index x.fill.now ((a - n) % length x.fill.now); stays = false })
        (gap_from a l h))

-- orders of input sections and of data commands
pub pieces-end : (from end : ℕ) (xs : List ImagePiece) → ArePieces from end xs → from ≤ end
pieces-end from end [] h = h
pieces-end from end (y ∷ ys) h = let later = pieces-end (piece_end y) end ys h.1 in omega (arith, h.0)

pieces-low : (from end : ℕ) (xs : List ImagePiece) (i : ℕ) (d : ImagePiece) → ArePieces from end xs → i < length xs
    → from ≤ (get_or xs i d).start
pieces-low from end [] i d h l = absurd (omega arith)
pieces-low from end (y ∷ ys) zero d h l = h.0
pieces-low from end (y ∷ ys) (suc i) d h l = let later = pieces-low (piece_end y) end ys i d h.1 (omega arith) in
    omega (arith, h.0)

pieces-high : (from end : ℕ) (xs : List ImagePiece) (i : ℕ) (d : ImagePiece) → ArePieces from end xs → i < length xs
    → piece_end (get_or xs i d) ≤ end
pieces-high from end [] i d h l = absurd (omega arith)
pieces-high from end (y ∷ ys) zero d h l = pieces-end (piece_end y) end ys h.1
pieces-high from end (y ∷ ys) (suc i) d h l = pieces-high (piece_end y) end ys i d h.1 (omega arith)

pub pieces-order : (from end : ℕ) (xs : List ImagePiece) (i j : ℕ) (d e : ImagePiece) → ArePieces from end xs → i < j
    → j < length xs → piece_end (get_or xs i d) ≤ (get_or xs j e).start
pieces-order from end [] i j d e h l m = absurd (omega arith)
pieces-order from end (y ∷ ys) zero zero d e h l m = absurd (omega arith)
pieces-order from end (y ∷ ys) zero (suc j) d e h l m = pieces-low (piece_end y) end ys j e h.1 (omega arith)
pieces-order from end (y ∷ ys) (suc i) zero d e h l m = absurd (omega arith)
pieces-order from end (y ∷ ys) (suc i) (suc j) d e h l m =
    pieces-order (piece_end y) end ys i j d e h.1 (omega arith) (omega arith)

data-end : (from end : ℕ) (xs : List PlacedData) → AreData from end xs → from ≤ end
data-end from end [] h = h
data-end from end (y ∷ ys) h = let later = data-end (data_end y) end ys h.1 in omega (arith, h.0)

data-low : (from end : ℕ) (xs : List PlacedData) (i : ℕ) (d : PlacedData) → AreData from end xs → i < length xs
    → from ≤ (get_or xs i d).start
data-low from end [] i d h l = absurd (omega arith)
data-low from end (y ∷ ys) zero d h l = h.0
data-low from end (y ∷ ys) (suc i) d h l = let later = data-low (data_end y) end ys i d h.1 (omega arith) in
    omega (arith, h.0)

pub data-high : (from end : ℕ) (xs : List PlacedData) (i : ℕ) (d : PlacedData) → AreData from end xs → i < length xs
    → data_end (get_or xs i d) ≤ end
data-high from end [] i d h l = absurd (omega arith)
data-high from end (y ∷ ys) zero d h l = data-end (data_end y) end ys h.1
data-high from end (y ∷ ys) (suc i) d h l = data-high (data_end y) end ys i d h.1 (omega arith)

data-order : (from end : ℕ) (xs : List PlacedData) (i j : ℕ) (d e : PlacedData) → AreData from end xs → i < j
    → j < length xs → data_end (get_or xs i d) ≤ (get_or xs j e).start
data-order from end [] i j d e h l m = absurd (omega arith)
data-order from end (y ∷ ys) zero zero d e h l m = absurd (omega arith)
data-order from end (y ∷ ys) zero (suc j) d e h l m = data-low (data_end y) end ys j e h.1 (omega arith)
data-order from end (y ∷ ys) (suc i) zero d e h l m = absurd (omega arith)
data-order from end (y ∷ ys) (suc i) (suc j) d e h l m =
    data-order (data_end y) end ys i j d e h.1 (omega arith) (omega arith)

pub some_bytes : (w : Width) → 0 < byte_count w
some_bytes Byte = omega arith
some_bytes Short = omega arith
some_bytes Long = omega arith
some_bytes Quad = omega arith

is-full : (n : ℕ) → 0 < n → not (n == 0) ≡ true
is-full n h = grind (arith, nat_tests)

-- input sections from one of them on start where it starts or later
pub pieces-from : (x : ImageSection) (k : ℕ) (e : ImagePiece) → IsOrderly x → k < length x.pieces.now
    → PiecesFrom x k (get_or x.pieces.now k e).start
pieces-from x k e o l = λ i y a n s. elim (leb_tells (suc k) i) [
  | inl b ↦ (let h = pieces-order x.start (x.start + x.size) x.pieces.now k i e y o.pieces b.1 n in omega (arith, h))
  | inr b ↦ (let one = ap (λ (t : ImagePiece). t.start) (same-at x.pieces.now i k y e (omega (arith, b.1)) l) in
      omega (arith, one))
]

pub data-from : (x : ImageSection) (j limit : ℕ) (e : PlacedData) → IsOrderly x → j < length x.data_commands.now
    → limit ≤ (get_or x.data_commands.now j e).start → DataFrom x j limit
data-from x j limit e o l a = λ i d b n. elim (leb_tells (suc j) i) [
  | inl c ↦ (let h = data-order x.start (x.start + x.size) x.data_commands.now j i e d o.data_commands c.1 n in
      omega (arith, h))
  | inr c ↦ (let one = ap (λ (t : PlacedData). t.start) (same-at x.data_commands.now i j d e (omega (arith, c.1)) l) in
      omega (arith, one))
]

pub piece-within : (x : ImageSection) (k : ℕ) (e : ImagePiece) → IsOrderly x → k < length x.pieces.now
    → piece_end (get_or x.pieces.now k e) ≤ x.start + x.size
piece-within x k e o l = pieces-high x.start (x.start + x.size) x.pieces.now k e o.pieces l

-- nothing is added yet
pub reached-none : (x : ImageSection) → IsOrderly x → IsReached x 0 0 x.start
reached-none x o = record {
  low = omega arith;
  high = omega arith;
  pieces_before = λ i y l n s. absurd (omega arith);
  pieces_after = λ i y l n s. pieces-low x.start (x.start + x.size) x.pieces.now i y o.pieces n;
  data_before = λ i d l n. absurd (omega arith);
  data_after = λ i d l n. data-low x.start (x.start + x.size) x.data_commands.now i d o.data_commands n;
  last = inl refl;
}

-- an input section, where the data commands to come start there or later
module _ (x : ImageSection) (k j at : ℕ) (e : ImagePiece) (o : IsOrderly x) (r : IsReached x k j at)
    (l : k < length x.pieces.now) where
  abbrev piece : ImagePiece
  piece = get_or x.pieces.now k e

  -- an empty one is passed over
  pub reached-empty : piece.size ≡ 0 → IsReached x (k + 1) j at
  reached-empty z = record {
    low = r.low;
    high = r.high;
    pieces_before = λ i y a n s. elim (leb_tells (suc i) k) [
      | inl before ↦ r.pieces_before i y before.1 n s
      | inr after ↦ (let same : i ≡ k = omega (arith, after.1) in absurd (empty i y same n s))
    ];
    pieces_after = λ i y a n s. r.pieces_after i y (omega arith) n s;
    data_before = r.data_before;
    data_after = r.data_after;
    last = r.last;
  }
    where
      empty : (i : ℕ) (y : ImagePiece) → i ≡ k → i < length x.pieces.now → 0 < (get_or x.pieces.now i y).size → ⊥
      empty i y same n s = (let one = ap (λ (t : ImagePiece). t.size) (same-at x.pieces.now i k y e same l) in
          omega (arith, one, z, s))

  module _ (some : 0 < piece.size) (ds : DataFrom x j piece.start) where
    pub start_above : at ≤ piece.start
    start_above = r.pieces_after k e (omega arith) l some

    pub pieces_from : PiecesFrom x k piece.start
    pieces_from = pieces-from x k e o l

    pub end_within : piece_end piece ≤ x.start + x.size
    end_within = pieces-high x.start (x.start + x.size) x.pieces.now k e o.pieces l

    -- what lies in it
    pub piece_spot : (a : ℕ) → piece.start ≤ a → a < piece_end piece → section_spot x a
        ≡ record { byte = piece_byte a piece; stays = piece.stays }
    unfolding section_spot
    piece_spot a b h =
        let above = start_above in
        rw (find-at (covers_piece a) x.pieces.now k e l (λ i y c n.
        not_covered ((get_or x.pieces.now i y).start) ((get_or x.pieces.now i y).size) a (λ s.
        inl (let before = r.pieces_before i y c n s in omega (arith, before))))
        (covered piece.start piece.size a b h))
        refl

    pub reached-piece : IsReached x (k + 1) j (piece_end piece)
    reached-piece =
        let above = start_above in
        record {
          low = omega (arith, r.low);
          high = end_within;
          pieces_before = λ i y a n s. elim (leb_tells (suc i) k) [
            | inl before ↦ (let b = r.pieces_before i y before.1 n s in omega (arith, b))
            | inr after ↦ (let one = ap piece_end (same-at x.pieces.now i k y e (omega (arith, after.1)) l) in
                omega (arith, one))
          ];
          pieces_after = λ i y a n s.
              pieces-order x.start (x.start + x.size) x.pieces.now k i e y o.pieces (omega arith) n;
          data_before = λ i d a n. (let b = r.data_before i d a n in omega (arith, b));
          data_after = λ i d a n. elim (o.apart k i e d l n some) [
            | inl b ↦ b
            | inr b ↦ (let low = ds i d a n in let w = some_bytes ((get_or x.data_commands.now i d).width) in
                absurd (omega (arith, b, low, w)))
          ];
          last = inr (Contains-append_left (map piece_end (filter is_full x.pieces.now))
              (map data_end x.data_commands.now) (piece_end piece)
              (contains-full is_full piece_end x.pieces.now k e l (is-full piece.size some)));
        }

-- a data command that starts before the input sections to come
module _ (x : ImageSection) (k j at limit : ℕ) (e : PlacedData) (o : IsOrderly x) (r : IsReached x k j at)
    (l : j < length x.data_commands.now)
    (ps : PiecesFrom x k limit) (below : (get_or x.data_commands.now j e).start < limit) where
  abbrev item : PlacedData
  item = get_or x.data_commands.now j e

  pub data_above : at ≤ item.start
  data_above = r.data_after j e (omega arith) l

  pub data_within : data_end item ≤ x.start + x.size
  data_within = data-high x.start (x.start + x.size) x.data_commands.now j e o.data_commands l

  pub pieces_later : PiecesFrom x k (data_end item)
  pieces_later = λ i y a n s. elim (o.apart i j y e n l s) [
    | inl b ↦ (let h = ps i y a n s in absurd (omega (arith, b, h, below)))
    | inr b ↦ b
  ]

  pub pieces_at : PiecesFrom x k item.start
  pieces_at = λ i y a n s. (let h = ps i y a n s in omega (arith, h, below))

  pub data_from : DataFrom x j item.start
  data_from = data-from x j item.start e o l (omega arith)

  pub data_spot : (a : ℕ) → item.start ≤ a → a < data_end item → section_spot x a
      ≡ record { byte = data_byte a item; stays = false }
  unfolding section_spot
  data_spot a b h =
      let above = data_above in
      rw (
        find-none (covers_piece a) x.pieces.now (λ i y n.
            not_covered ((get_or x.pieces.now i y).start) ((get_or x.pieces.now i y).size) a (λ s.
            elim (leb_tells (suc i) k) [
              | inl c ↦ inl (let before = r.pieces_before i y c.1 n s in omega (arith, before))
              | inr c ↦ inr (let after = pieces_later i y (omega (arith, c.1)) n s in omega (arith, after))
            ])),
        find-at (covers_data a) x.data_commands.now j e l (λ i d c n.
            not_covered ((get_or x.data_commands.now i d).start) (byte_count ((get_or x.data_commands.now i d).width))
            a (λ s. inl (let before = r.data_before i d c n in omega (arith, before))))
            (covered item.start (byte_count item.width) a b h),
      )
      refl

  pub reached-data : IsReached x k (j + 1) (data_end item)
  reached-data =
      let above = data_above in
      record {
        low = omega (arith, r.low);
        high = data_within;
        pieces_before = λ i y a n s. (let b = r.pieces_before i y a n s in omega (arith, b));
        pieces_after = pieces_later;
        data_before = λ i d a n. elim (leb_tells (suc i) j) [
          | inl before ↦ (let b = r.data_before i d before.1 n in omega (arith, b))
          | inr after ↦ (let one = ap data_end (same-at x.data_commands.now i j d e (omega (arith, after.1)) l) in
              omega (arith, one))
        ];
        data_after = λ i d a n.
            data-order x.start (x.start + x.size) x.data_commands.now j i e d o.data_commands (omega arith) n;
        last = inr (Contains-append_right (map piece_end (filter is_full x.pieces.now))
            (map data_end x.data_commands.now) (data_end item) (contains-at data_end x.data_commands.now j e l));
      }
