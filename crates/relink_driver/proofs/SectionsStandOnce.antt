-- Each input section stands in a layout once, so it is found by its part of its object.
use Rattle.relink_driver.proofs.Common.{Bool, Contains, Each, EachLater, InCommon, InTable, Layout, List, Part}
use Rattle.relink_driver.proofs.Common.{PlacedOutput, PlacedPiece, Some, [], any_in, ap, arith, bytes_eq-Decides, cond}
use Rattle.relink_driver.proofs.Common.{entries_in, eq-eqb, false, find, first_or_later, flat_map, inl, inr, is_part}
use Rattle.relink_driver.proofs.Common.{is_same_part, list_any, map, map-append, member_of, none_in_nil, placed_part}
use Rattle.relink_driver.proofs.Common.{position, position_from, refl, same_Some, slice_get, subst, suc, sym, true}
use Rattle.relink_driver.proofs.Common.{zero, ℕ, ⊎_elim, ◌&&◌, ◌++◌, ◌+◌, ◌∙◌, ◌∷◌, ◌≡◌, ◌⊎◌}
use Rattle.std.proofs.lemmas.Iterator.Adapters.{position_from-zero}
use Rattle.std.proofs.lemmas.List.Elements.{Contains-append_left, Contains-append_right, Contains-append_cases}
use Rattle.ldmodel.specs.Rows.{Piece}
use Rattle.ldmodel_laws.specs.PlacedOnce.{Differ}
use Rattle.ldmodel_laws.proofs.EachOf.{none_any, later_of_map, across, last_part}

abbrev pub rows_flat : List PlacedOutput → List Piece
rows_flat qs = flat_map (λ (row : List Piece). row) (map entries_in qs)

abbrev pub pieces : List PlacedOutput → List PlacedPiece
pieces qs = flat_map (λ (q : PlacedOutput). q.pieces) qs

abbrev pub is_of : PlacedPiece → PlacedPiece → Bool
is_of z = is_part z.piece.object z.piece.part

abbrev pub has : PlacedPiece → PlacedOutput → Bool
has z q = list_any (is_of z) q.pieces

abbrev Apart : PlacedPiece → PlacedPiece → Type 0
Apart x y = Differ x.piece y.piece

pub own_part : (part : Part) → is_same_part part part ≡ true
own_part (InTable k) = eq-eqb k.0 k.0 refl
own_part (InCommon x) = eq-eqb x.0 x.0 refl

own : (z : PlacedPiece) → is_of z z ≡ true
own z =
    ap (λ b. b && is_same_part z.piece.part z.piece.part) ((bytes_eq-Decides z.piece.object z.piece.object).1 refl)
    ∙ own_part z.piece.part

pub flat : (qs : List PlacedOutput) → rows_flat qs ≡ map (λ (x : PlacedPiece). x.piece) (pieces qs)
flat [] = refl
flat (q ∷ qs) =
    ap (λ l. entries_in q ++ l) (flat qs) ∙ sym (map-append (λ (x : PlacedPiece). x.piece) q.pieces (pieces qs))

pieces_apart : (qs : List PlacedOutput) → EachLater Differ (rows_flat qs) → EachLater Apart (pieces qs)
pieces_apart qs h =
    later_of_map Differ (λ (x : PlacedPiece). x.piece) (pieces qs) (subst (EachLater Differ) (flat qs) h)

-- an input section, and the output section that it stands in
pub record Stands (qs : List PlacedOutput) (z : PlacedPiece) : Type 0 where
  pub number : ℕ
  pub section : PlacedOutput
  pub at : slice_get qs number ≡ Some section
  pub among : Contains section.pieces z

pub in_pieces : (qs : List PlacedOutput) (z : PlacedPiece) → Contains (pieces qs) z → Stands qs z
in_pieces [] z c = absurd (none_in_nil z c)
in_pieces (q ∷ qs) z c =
    ⊎_elim (λ own_row. record { number = 0; section = q; at = refl; among = own_row })
    (λ in_rest. let k = in_pieces qs z in_rest in
    record { number = suc k.number; section = k.section; at = k.at; among = k.among })
    (Contains-append_cases q.pieces (pieces qs) z c)

pub pieces_in : (qs : List PlacedOutput) (k : ℕ) (q : PlacedOutput) (z : PlacedPiece) → slice_get qs k ≡ Some q
    → Contains q.pieces z → Contains (pieces qs) z
pieces_in [] k q z e c = absurd (let none : ⊥ = cc in none)
pieces_in (r ∷ rs) zero q z e c =
    Contains-append_left r.pieces (pieces rs) z
    (subst (λ (x : PlacedOutput). Contains x.pieces z) (sym (same_Some _ _ e)) c)
pieces_in (r ∷ rs) (suc k) q z e c = Contains-append_right r.pieces (pieces rs) z (pieces_in rs k q z e c)

found_among : (xs : List PlacedPiece) (z : PlacedPiece) → EachLater Apart xs → Contains xs z
    → find (is_of z) xs ≡ Some z
found_among [] z h c = absurd (none_in_nil z c)
found_among (y ∷ ys) z h c = go (first_or_later y ys z c) (λ k. found_among ys z h.1 k)
  where
    go : (y ≡ z) ⊎ Contains ys z → (Contains ys z → find (is_of z) ys ≡ Some z)
        → cond (is_of z y) (Some y) (find (is_of z) ys) ≡ Some z
    go (inl is) rest = ap (λ b. cond b (Some y) (find (is_of z) ys)) (ap (is_of z) is ∙ own z) ∙ ap Some is
    go (inr k) rest =
        ap (λ b. cond b (Some y) (find (is_of z) ys)) (member_of (λ w. Apart y w) ys z h.0 k) ∙ rest k

-- none of a row is one that differs from each of it
other_row : (ys : List PlacedPiece) (zs : List PlacedPiece) (z : PlacedPiece) → Each (λ y. Each (Apart y) zs) ys
    → Contains zs z → Each (λ y. is_of z y ≡ false) ys
other_row [] zs z h c = tt
other_row (y ∷ ys) zs z h c = (member_of (Apart y) zs z h.0 c, other_row ys zs z h.1 c)

section_from : (qs : List PlacedOutput) (n k : ℕ) (q : PlacedOutput) (z : PlacedPiece) → EachLater Apart (pieces qs)
    → slice_get qs k ≡ Some q → Contains q.pieces z → position_from (has z) n qs ≡ Some (n + k)
section_from [] n k q z h e c = absurd (let none : ⊥ = cc in none)
section_from (r ∷ rs) n zero q z h e c =
    let mine : Contains r.pieces z = subst (λ (x : PlacedOutput). Contains x.pieces z) (sym (same_Some _ _ e)) c in
    let same : n ≡ n + 0 = omega arith in
    ap (λ b. cond b (Some n) (position_from (has z) (n + 1) rs)) (any_in (is_of z) r.pieces z mine (own z))
    ∙ ap Some same
section_from (r ∷ rs) n (suc k) q z h e c =
    let more : (n + 1) + k ≡ n + suc k = omega arith in
    ap (λ b. cond b (Some n) (position_from (has z) (n + 1) rs))
    (none_any (is_of z) r.pieces
    (other_row r.pieces (pieces rs) z (across Apart r.pieces (pieces rs) h) (pieces_in rs k q z e c)))
    ∙ section_from rs (n + 1) k q z (last_part Apart r.pieces (pieces rs) h) e c ∙ ap Some more

module _ (s : Layout) (once : EachLater Differ (rows_flat s.sections)) (k : ℕ) (q : PlacedOutput) (z : PlacedPiece)
    (at : slice_get s.sections k ≡ Some q) (among : Contains q.pieces z) where
  pub found : placed_part s z.piece.object z.piece.part ≡ Some z
  found = found_among (pieces s.sections) z (pieces_apart s.sections once) (pieces_in s.sections k q z at among)

  pub section_is : position (has z) s.sections ≡ Some k
  section_is =
      let same : 0 + k ≡ k = omega arith in
      position_from-zero (has z) s.sections ∙ section_from s.sections 0 k q z (pieces_apart s.sections once) at among
      ∙ ap Some same
