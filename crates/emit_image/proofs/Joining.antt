-- Input sections that stay, joined to those before them.
use Rattle.emit_image.proofs.Common.{All, AreInOrder, ArePieces, Bool, Each, ImagePiece, List, None, Option, Patch}
use Rattle.emit_image.proofs.Common.{Some, Spot, [], ap, arith, cases_lt, cond, covers, covers_piece, false, filter}
use Rattle.emit_image.proofs.Common.{filter-append, find, fold-append, get_or, inl, inr, last_end, length, map}
use Rattle.emit_image.proofs.Common.{map-append, max, nat_le, nat_tests, not, option_map, option_or, patched_byte, refl}
use Rattle.emit_image.proofs.Common.{slice_set, subst, suc, sym, take, true, true≢false, zero, ℕ, ◌++◌, ◌+◌, ◌-◌, ◌<◌}
use Rattle.emit_image.proofs.Common.{◌==◌, ◌||◌, ◌∙◌, ◌∷◌, ◌≡◌, ◌≤◌, ◌⊎◌}
use Rattle.std.proofs.lemmas.List.Folds.{find-append}
use Rattle.ldmodel.specs.declared.placed.PlacedData.{PlacedData}
use Rattle.emit_image.specs.Drawing.{AreApart, IsFilled, data_end, is_full, piece_end}
use Rattle.emit_image.specs.Joined.{IsBare, IsStayedPieceAt, StandFor, piece_ends, piece_spot, spot_in}
use Rattle.emit_image.proofs.Found.{covered, not_covered}
use Rattle.emit_image.proofs.InSection.{some_bytes}

-- ---- lists with one more

each_more : {X : Type 0} (P : X → Type 0) (xs : List X) (x : X) → Each P xs → P x → Each P (xs ++ x ∷ [])
each_more P [] x h p = (p, tt)
each_more P (y ∷ ys) x h p = (h.0, each_more P ys x h.1 p)

each_parts : {X : Type 0} (P : X → Type 0) (xs : List X) (x : X) → Each P (xs ++ x ∷ []) → Each P xs × P x
each_parts P [] x h = (tt, h.0)
each_parts P (y ∷ ys) x h = let rest = each_parts P ys x h.1 in ((h.0, rest.0), rest.1)

each_of : {X : Type 0} (P : X → Type 0) (xs : List X) → All P xs → Each P xs
each_of P [] h = tt
each_of P (x ∷ xs) h = (h 0 x (omega arith), each_of P xs (λ k d l. h (suc k) d (omega (arith, l))))

all_of : {X : Type 0} (P : X → Type 0) (xs : List X) → Each P xs → All P xs
all_of P [] h k d l = absurd (omega (arith, l))
all_of P (x ∷ xs) h zero d l = h.0
all_of P (x ∷ xs) h (suc k) d l = all_of P xs h.1 k d (omega (arith, l))

spots_more : (xs : List ImagePiece) (x : ImagePiece) (at : ℕ) → spot_in (xs ++ x ∷ []) at
    ≡ option_or (spot_in xs at) (spot_in (x ∷ []) at)
spots_more xs x at =
    ap (option_map (piece_spot at)) (find-append (covers_piece at) xs (x ∷ []))
    ∙ go (find (covers_piece at) xs) (find (covers_piece at) (x ∷ []))
  where
    go : (a b : Option ImagePiece) → option_map (piece_spot at) (option_or a b)
        ≡ option_or (option_map (piece_spot at) a) (option_map (piece_spot at) b)
    go None b = refl
    go (Some z) b = refl

last_more : (xs : List ImagePiece) (x : ImagePiece) (at from : ℕ) → last_end at from (piece_ends (xs ++ x ∷ []))
    ≡ last_end at (last_end at from (piece_ends xs)) (piece_ends (x ∷ []))
last_more xs x at from =
    ap (last_end at from)
    (ap (map piece_end) (filter-append is_full xs (x ∷ []))
    ∙ map-append piece_end (filter is_full xs) (filter is_full (x ∷ [])))
    ∙ fold-append (λ n end. cond (nat_le end at) (max n end) n) from (piece_ends xs) (piece_ends (x ∷ []))

pieces_parts : (from end : ℕ) (xs : List ImagePiece) (x : ImagePiece) → ArePieces from end (xs ++ x ∷ [])
    → ArePieces from x.start xs × (piece_end x ≤ end)
pieces_parts from end [] x h = h
pieces_parts from end (y ∷ ys) x h =
    let rest = pieces_parts (piece_end y) end ys x h.1 in ((h.0, rest.0), rest.1)

pieces_more : (from end : ℕ) (xs : List ImagePiece) (x : ImagePiece) → ArePieces from x.start xs → piece_end x ≤ end
    → ArePieces from end (xs ++ x ∷ [])
pieces_more from end [] x h l = (h, l)
pieces_more from end (y ∷ ys) x h l = (h.0, pieces_more (piece_end y) end ys x h.1 l)

-- an input section apart from data commands
abbrev Apart : List PlacedData → ImagePiece → Type 0
Apart ds x =
    (j : ℕ) (d : PlacedData) → j < length ds → 0 < x.size
    → (piece_end x ≤ (get_or ds j d).start) ⊎ (data_end (get_or ds j d) ≤ x.start)

each_apart : (xs : List ImagePiece) (ds : List PlacedData) → AreApart xs ds → Each (Apart ds) xs
each_apart [] ds h = tt
each_apart (x ∷ xs) ds h = (
  λ j d l some. h 0 j x d (omega arith) l some,
  each_apart xs ds (λ i j y d k l some. h (suc i) j y d (omega (arith, k)) l some),
)

are_apart : (xs : List ImagePiece) (ds : List PlacedData) → Each (Apart ds) xs → AreApart xs ds
are_apart [] ds h i j y d k l some = absurd (omega (arith, k))
are_apart (x ∷ xs) ds h zero j y d k l some = h.0 j d l some
are_apart (x ∷ xs) ds h (suc i) j y d k l some = are_apart xs ds h.1 i j y d (omega (arith, k)) l some

no_spot : (a b : Option Spot) → option_or a b ≡ None → (a ≡ None) × (b ≡ None)
no_spot None b e = (refl, e)
no_spot (Some z) b e = absurd (let none : ⊥ = cc in none)

-- ---- nothing yet, and one more that is not joined

pub stand_none : StandFor [] []
stand_none = record {
  bare = tt;
  spots = λ at. refl;
  ends = λ at from none. refl;
  order = λ from end h. h;
  filled = λ h. h;
  apart = λ ds h. h;
}

pub stand_more : (whole ys : List ImagePiece) (x : ImagePiece) → StandFor whole ys → IsBare x
    → StandFor (whole ++ x ∷ []) (ys ++ x ∷ [])
stand_more whole ys x h bare = record {
  bare = each_more IsBare ys x h.bare bare;
  spots = λ at.
      spots_more ys x at ∙ ap (λ a. option_or a (spot_in (x ∷ []) at)) (h.spots at) ∙ sym (spots_more whole x at);
  ends = λ at from none.
      let before = no_spot (spot_in whole at) (spot_in (x ∷ []) at) (sym (spots_more whole x at) ∙ none) in
      last_more ys x at from ∙ ap (λ n. last_end at n (piece_ends (x ∷ []))) (h.ends at from before.0)
      ∙ sym (last_more whole x at from);
  order = λ from end order.
      let parts = pieces_parts from end whole x order in
      pieces_more from end ys x (h.order from x.start parts.0) parts.1;
  filled = λ filled.
      let parts = each_parts IsFilled whole x (each_of IsFilled (whole ++ x ∷ []) filled) in
      all_of IsFilled (ys ++ x ∷ [])
      (each_more IsFilled ys x (each_of IsFilled ys (h.filled (all_of IsFilled whole parts.0))) parts.1);
  apart = λ ds apart.
      let parts = each_parts (Apart ds) whole x (each_apart (whole ++ x ∷ []) ds apart) in
      are_apart (ys ++ x ∷ []) ds
      (each_more (Apart ds) ys x (each_apart ys ds (h.apart ds (are_apart whole ds parts.0))) parts.1);
}

-- ---- one more that is empty, and not in the list

pieces_until : (from middle end : ℕ) (xs : List ImagePiece) → ArePieces from middle xs → middle ≤ end
    → ArePieces from end xs
pieces_until from middle end [] h l = omega (arith, h, l)
pieces_until from middle end (y ∷ ys) h l = (h.0, pieces_until (piece_end y) middle end ys h.1 l)

empty_spot : (x : ImagePiece) (at : ℕ) → x.size ≡ 0 → spot_in (x ∷ []) at ≡ None
empty_spot x at none =
    ap (λ b. option_map (piece_spot at) (cond b (Some x) None))
    (not_covered x.start x.size at (λ some. absurd (omega (arith, some, none))))

empty_end : (x : ImagePiece) (at n : ℕ) → x.size ≡ 0 → last_end at n (piece_ends (x ∷ [])) ≡ n
empty_end x at n none =
    ap (λ (size : ℕ). last_end at n (map piece_end (cond (not (size == 0)) (x ∷ []) []))) none

or_none : (a : Option Spot) → option_or a None ≡ a
or_none None = refl
or_none (Some z) = refl

pub stand_empty : (whole ys : List ImagePiece) (x : ImagePiece) → StandFor whole ys → x.size ≡ 0
    → StandFor (whole ++ x ∷ []) ys
stand_empty whole ys x h none = record {
  bare = h.bare;
  spots = λ at.
      h.spots at
      ∙ sym (spots_more whole x at ∙ ap (option_or (spot_in whole at)) (empty_spot x at none)
      ∙ or_none (spot_in whole at));
  ends = λ at from clear.
      let before = no_spot (spot_in whole at) (spot_in (x ∷ []) at) (sym (spots_more whole x at) ∙ clear) in
      h.ends at from before.0
      ∙ sym (last_more whole x at from ∙ empty_end x at (last_end at from (piece_ends whole)) none);
  order = λ from end order.
      let parts = pieces_parts from end whole x order in
      h.order from end (pieces_until from x.start end whole parts.0 (omega (arith, parts.1)));
  filled = λ filled.
      h.filled (all_of IsFilled whole (each_parts IsFilled whole x (each_of IsFilled (whole ++ x ∷ []) filled)).0);
  apart = λ ds apart.
      h.apart ds (are_apart whole ds (each_parts (Apart ds) whole x (each_apart (whole ++ x ∷ []) ds apart)).0);
}

-- ---- one that is joined to the last

abbrev kept_spot : Spot
kept_spot = record { byte = 0; stays = true }

bare_byte : (bytes : List ℕ) (fields : List Patch) (i : ℕ) → bytes ≡ [] → fields ≡ [] → patched_byte bytes fields i ≡ 0
bare_byte bytes fields i e f = ap (λ b. patched_byte b fields i) e ∙ ap (λ r. patched_byte [] r i) f

spot_of : (at start size : ℕ) (x : ImagePiece) → IsStayedPieceAt start size x → piece_spot at x ≡ kept_spot
spot_of at start size x h =
    let spot : ℕ → Bool → Spot = λ n b. record { byte = n; stays = b } in
    ap (λ n. spot n x.stays) (bare_byte x.bytes.now x.fields.now (at - x.start) h.bytes h.fields)
    ∙ ap (spot 0) h.stays

one_spot : (at start size : ℕ) (x : ImagePiece) → IsStayedPieceAt start size x → spot_in (x ∷ []) at
    ≡ cond (covers start size at) (Some kept_spot) None
one_spot at start size x h =
    go (covers x.start x.size at)
    ∙ ap (λ n. cond (covers n x.size at) (Some kept_spot) None) h.start_is
    ∙ ap (λ n. cond (covers start n at) (Some kept_spot) None) h.size_is
  where
    go : (b : Bool) → option_map (piece_spot at) (cond b (Some x) None) ≡ cond b (Some kept_spot) None
    go true = ap Some (spot_of at start size x h)
    go false = refl

covers_joined : (s a b at : ℕ) → covers s (a + b) at ≡ (covers s a at || covers (s + a) b at)
covers_joined s a b at = elim (cases_lt at s) [
  | inl low ↦
      rw (
        not_covered s (a + b) at (λ some. inr low),
        not_covered s a at (λ some. inr low),
        not_covered (s + a) b at (λ some. inr (omega (arith, low))),
      )
      refl
  | inr past ↦ elim (cases_lt at (s + a)) [
    | inl first ↦ rw (covered s (a + b) at past (omega (arith, first)), covered s a at past first) refl
    | inr second ↦ elim (cases_lt at (s + a + b)) [
      | inl l ↦
          rw (
            covered s (a + b) at past (omega (arith, l)),
            not_covered s a at (λ some. inl second),
            covered (s + a) b at second l,
          )
          refl
      | inr l ↦
          rw (
            not_covered s (a + b) at (λ some. inl (omega (arith, l))),
            not_covered s a at (λ some. inl second),
            not_covered (s + a) b at (λ some. inl l),
          )
          refl
    ]
  ]
]

either_spot : (b c : Bool) (z : Spot) → cond (b || c) (Some z) None
    ≡ option_or (cond b (Some z) None) (cond c (Some z) None)
either_spot true c z = refl
either_spot false c z = refl

not_found : (b : Bool) (z : Spot) → cond b (Some z) None ≡ None → b ≡ false
not_found true z e = absurd (let none : ⊥ = cc in none)
not_found false z e = refl

-- the end of one input section
abbrev end_step : ℕ → ℕ → ℕ → ℕ → ℕ
end_step at n start size =
    cond (not (size == 0)) (cond (nat_le (start + size) at) (max n (start + size)) n) n

one_end : (at n start size : ℕ) (x : ImagePiece) → IsStayedPieceAt start size x → last_end at n (piece_ends (x ∷ []))
    ≡ end_step at n start size
one_end at n start size x h =
    go (is_full x) ∙ ap (λ k. end_step at n k x.size) h.start_is ∙ ap (end_step at n start) h.size_is
  where
    go : (b : Bool) → last_end at n (map piece_end (cond b (x ∷ []) []))
        ≡ cond b (cond (nat_le (x.start + x.size) at) (max n (x.start + x.size)) n) n
    go true = refl
    go false = refl

end_of_none : (at n start size : ℕ) → size ≡ 0 → end_step at n start size ≡ n
end_of_none at n start size e = rw e refl

end_of_some : (at n start size : ℕ) → 0 < size → start + size ≤ at → end_step at n start size ≡ max n (start + size)
end_of_some at n start size some l = grind (arith, nat_tests)

end_past : (at n start size : ℕ) → at < start + size → end_step at n start size ≡ n
end_past at n start size l = grind (arith, nat_tests)

uncovered : (s n at : ℕ) → covers s n at ≡ false → (n ≡ 0) ⊎ (at < s) ⊎ (s + n ≤ at)
uncovered s n at e = elim (cases_lt at s) [
  | inl low ↦ inr (inl low)
  | inr past ↦ elim (cases_lt at (s + n)) [
    | inl l ↦ absurd (true≢false (sym (covered s n at past l) ∙ e))
    | inr l ↦ inr (inr l)
  ]
]

ends_joined : (at n s a b : ℕ) → covers (s + a) b at ≡ false
    → end_step at n s (a + b) ≡ end_step at (end_step at n s a) (s + a) b
ends_joined at n s a b e = elim (uncovered (s + a) b at e) [
  | inl none ↦
      (let sum : a + b ≡ a = omega (arith, none) in
      ap (end_step at n s) sum ∙ sym (end_of_none at (end_step at n s a) (s + a) b none))
  | inr other ↦ elim other [
    | inl low ↦
        end_past at n s (a + b) (omega (arith, low))
        ∙ sym (end_past at (end_step at n s a) (s + a) b (omega (arith, low)) ∙ end_past at n s a low)
    | inr past ↦ elim (cases_lt 0 b) [
      | inl some ↦
          end_of_some at n s (a + b) (omega (arith, some)) (omega (arith, past))
          ∙ sym (end_of_some at (end_step at n s a) (s + a) b some past ∙ highest some past)
      | inr few ↦
          (let none : b ≡ 0 = omega (arith, few) in
          let sum : a + b ≡ a = omega (arith, none) in
          ap (end_step at n s) sum ∙ sym (end_of_none at (end_step at n s a) (s + a) b none))
    ]
  ]
]
  where
    highest : 0 < b → s + a + b ≤ at → max (end_step at n s a) (s + a + b) ≡ max n (s + (a + b))
    highest some past = elim (cases_lt 0 a) [
      | inl full ↦
          (let own = end_of_some at n s a full (omega (arith, past)) in
          ap (λ m. max m (s + a + b)) own ∙
          (let t : max (max n (s + a)) (s + a + b) ≡ max n (s + (a + b)) = omega arith in
          t))
      | inr empty ↦
          (let own = end_of_none at n s a (omega (arith, empty)) in
          ap (λ m. max m (s + a + b)) own ∙ (let t : max n (s + a + b) ≡ max n (s + (a + b)) = omega arith in t))
    ]

module _ (whole ys : List ImagePiece) (y x z : ImagePiece) (s a b : ℕ) (h : StandFor whole (ys ++ y ∷ []))
    (last : IsStayedPieceAt s a y) (next : IsStayedPieceAt (s + a) b x) (both : IsStayedPieceAt s (a + b) z) where
  spots_joined : (at : ℕ) → spot_in (ys ++ z ∷ []) at ≡ spot_in (whole ++ x ∷ []) at
  spots_joined at =
      let one : spot_in (z ∷ []) at ≡ option_or (spot_in (y ∷ []) at) (spot_in (x ∷ []) at) =
      one_spot at s (a + b) z both ∙ ap (λ c. cond c (Some kept_spot) None) (covers_joined s a b at)
      ∙ either_spot (covers s a at) (covers (s + a) b at) kept_spot
      ∙ ap (λ o. option_or o (cond (covers (s + a) b at) (Some kept_spot) None)) (sym (one_spot at s a y last))
      ∙ ap (option_or (spot_in (y ∷ []) at)) (sym (one_spot at (s + a) b x next)) in
      spots_more ys z at ∙ ap (option_or (spot_in ys at)) one
      ∙ assoc (spot_in ys at) (spot_in (y ∷ []) at) (spot_in (x ∷ []) at)
      ∙ ap (λ o. option_or o (spot_in (x ∷ []) at)) (sym (spots_more ys y at) ∙ h.spots at)
      ∙ sym (spots_more whole x at)
    where
      assoc : (o p q : Option Spot) → option_or o (option_or p q) ≡ option_or (option_or o p) q
      assoc None p q = refl
      assoc (Some v) p q = refl

  ends_same : (at from : ℕ) → spot_in (whole ++ x ∷ []) at ≡ None → last_end at from (piece_ends (ys ++ z ∷ []))
      ≡ last_end at from (piece_ends (whole ++ x ∷ []))
  ends_same at from none =
      let before = no_spot (spot_in whole at) (spot_in (x ∷ []) at) (sym (spots_more whole x at) ∙ none) in
      let clear : covers (s + a) b at ≡ false =
      not_found (covers (s + a) b at) kept_spot (sym (one_spot at (s + a) b x next) ∙ before.1) in
      let n : ℕ = last_end at from (piece_ends ys) in
      last_more ys z at from ∙ one_end at n s (a + b) z both ∙ ends_joined at n s a b clear
      ∙ ap (λ m. end_step at m (s + a) b)
      (sym (one_end at n s a y last) ∙ sym (last_more ys y at from) ∙ h.ends at from before.0)
      ∙ sym (one_end at (last_end at from (piece_ends whole)) (s + a) b x next)
      ∙ sym (last_more whole x at from)

  order_same : (from end : ℕ) → ArePieces from end (whole ++ x ∷ []) → ArePieces from end (ys ++ z ∷ [])
  order_same from end order =
      let parts = pieces_parts from end whole x order in
      let own = pieces_parts from x.start ys y (h.order from x.start parts.0) in
      let first : ArePieces from z.start ys =
      subst (λ n. ArePieces from n ys) (last.start_is ∙ sym both.start_is) own.0 in
      pieces_more from end ys z first
      (omega (arith, parts.1, next.start_is, next.size_is, both.start_is, both.size_is))

  filled_bare : IsFilled z
  filled_bare = (
    inr (ap length both.bytes, ap length both.fields),
    subst (λ r. AreInOrder 0 z.size r) (sym both.fields) (omega arith),
  )

  filled_same : All IsFilled (whole ++ x ∷ []) → All IsFilled (ys ++ z ∷ [])
  filled_same filled =
      let parts = each_parts IsFilled whole x (each_of IsFilled (whole ++ x ∷ []) filled) in
      let own = each_parts IsFilled ys y
      (each_of IsFilled (ys ++ y ∷ []) (h.filled (all_of IsFilled whole parts.0))) in
      all_of IsFilled (ys ++ z ∷ []) (each_more IsFilled ys z own.0 filled_bare)

  apart_both : (ds : List PlacedData) → Apart ds y → Apart ds x → Apart ds z
  apart_both ds first second j d l some = elim (cases_lt 0 b) [
    | inl more ↦ elim (second j d l (omega (arith, next.size_is, more))) [
      | inl e ↦ inl (omega (arith, e, next.start_is, next.size_is, both.start_is, both.size_is))
      | inr e ↦ elim (cases_lt 0 a) [
        | inl full ↦ elim (first j d l (omega (arith, last.size_is, full))) [
          | inl k ↦
              absurd (omega (
                arith,
                e,
                k,
                some_bytes ((get_or ds j d).width),
                next.start_is,
                last.start_is,
                last.size_is,
              ))
          | inr k ↦ inr (omega (arith, k, last.start_is, both.start_is))
        ]
        | inr empty ↦ inr (omega (arith, e, empty, next.start_is, both.start_is))
      ]
    ]
    | inr few ↦ elim (first j d l (omega (arith, some, few, last.size_is, both.size_is))) [
      | inl k ↦ inl (omega (arith, k, few, last.start_is, last.size_is, both.start_is, both.size_is))
      | inr k ↦ inr (omega (arith, k, last.start_is, both.start_is))
    ]
  ]

  apart_same : (ds : List PlacedData) → AreApart (whole ++ x ∷ []) ds → AreApart (ys ++ z ∷ []) ds
  apart_same ds apart =
      let parts = each_parts (Apart ds) whole x (each_apart (whole ++ x ∷ []) ds apart) in
      let own = each_parts (Apart ds) ys y
      (each_apart (ys ++ y ∷ []) ds (h.apart ds (are_apart whole ds parts.0))) in
      are_apart (ys ++ z ∷ []) ds (each_more (Apart ds) ys z own.0 (apart_both ds own.1 parts.1))

  pub stand_joined : StandFor (whole ++ x ∷ []) (ys ++ z ∷ [])
  stand_joined = record {
    bare = each_more IsBare ys z (each_parts IsBare ys y h.bare).0 (λ _. (both.bytes, both.fields));
    spots = spots_joined;
    ends = ends_same;
    order = order_same;
    filled = filled_same;
    apart = apart_same;
  }

-- ---- the last of a list

pub split_last : {X : Type 0} (xs : List X) (k : ℕ) (d : X) → length xs ≡ k + 1 → xs ≡ take k xs ++ get_or xs k d ∷ []
split_last [] k d l = absurd (omega (arith, l))
split_last (x ∷ []) zero d l = refl
split_last (x ∷ y ∷ ys) zero d l = absurd (omega (arith, l))
split_last (x ∷ xs) (suc k) d l = ap (λ r. x ∷ r) (split_last xs k d (omega (arith, l)))

pub set_last : {X : Type 0} (xs : List X) (k : ℕ) (z : X) → length xs ≡ k + 1 → slice_set xs k z
    ≡ take k xs ++ z ∷ []
set_last [] k z l = absurd (omega (arith, l))
set_last (x ∷ []) zero z l = refl
set_last (x ∷ y ∷ ys) zero z l = absurd (omega (arith, l))
set_last (x ∷ xs) (suc k) z l = ap (λ r. x ∷ r) (set_last xs k z (omega (arith, l)))

-- the last of a list, joined with one that stays after it
pub joined_last : (whole items : List ImagePiece) (k : ℕ) (y x z : ImagePiece) → StandFor whole items
    → length items ≡ k + 1 → get_or items k y ≡ y → y.stays ≡ true → IsStayedPieceAt (y.start + y.size) x.size x
    → z.start ≡ y.start → z.size ≡ y.size + x.size → z.bytes.now ≡ y.bytes.now → z.fields.now ≡ y.fields.now
    → z.stays ≡ y.stays → StandFor (whole ++ x ∷ []) (slice_set items k z)
joined_last whole items k y x z h long at stays next start size bytes fields same =
    let ys : List ImagePiece = take k items in
    let is : items ≡ ys ++ y ∷ [] = split_last items k y long ∙ ap (λ v. ys ++ v ∷ []) at in
    let own : StandFor whole (ys ++ y ∷ []) = subst (StandFor whole) is h in
    let bare = (each_parts IsBare ys y own.bare).1 stays in
    subst (StandFor (whole ++ x ∷ [])) (sym (set_last items k z long))
    (stand_joined whole ys y x z y.start y.size x.size own
    (record { start_is = refl; size_is = refl; bytes = bare.0; fields = bare.1; stays = stays }) next (record {
      start_is = start;
      size_is = size;
      bytes = bytes ∙ bare.0;
      fields = fields ∙ bare.1;
      stays = same ∙ stays;
    }))
