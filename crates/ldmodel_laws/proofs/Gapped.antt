-- Where the gap of an address begins.
use Rattle.ldmodel_laws.proofs.Common.{Bool, Contains, Each, List, None, PlacedData, PlacedOutput, PlacedPiece, Some}
use Rattle.ldmodel_laws.proofs.Common.{[], arith, cond, covers, false, filter, find, fold, if◌then◌else◌, inl, inr}
use Rattle.ldmodel_laws.proofs.Common.{length, map, max, nat_le, not, refl, subst, sym, true, ℕ, ⊎_elim, ◌++◌, ◌+◌, ◌<◌}
use Rattle.ldmodel_laws.proofs.Common.{◌==◌, ◌∙◌, ◌∷◌, ◌≡◌, ◌≤◌, ◌⊎◌}
use Rattle.ldmodel_laws.specs.Gaps.{IsBare, IsGapStart}
use Rattle.ldmodel.specs.Image.{ends_in, gap_start}
use Rattle.ldmodel_laws.proofs.Members.{here, later}

-- the last of a start and of the ends that are not past an address
abbrev gap_from : ℕ → ℕ → List ℕ → ℕ
gap_from at start ends = fold (λ n end. if nat_le end at then max n end else n) start ends

abbrev next_start : Bool → ℕ → ℕ → ℕ
next_start b start e = if b then max start e else start

not_before : (b : Bool) (start e : ℕ) → start ≤ next_start b start e
not_before true start e = omega arith
not_before false start e = omega arith

at_least : (at start : ℕ) (ends : List ℕ) → start ≤ gap_from at start ends
at_least at start [] = omega arith
at_least at start (e ∷ es) =
    let first = not_before (nat_le e at) start e in
    let rest = at_least at (next_start (nat_le e at) start e) es in
    omega arith

within : (b : Bool) (at start e : ℕ) → nat_le e at ≡ b → start ≤ at → next_start b start e ≤ at
within true at start e d h = grind arith
within false at start e d h = h

at_most : (at start : ℕ) (ends : List ℕ) → start ≤ at → gap_from at start ends ≤ at
at_most at start [] h = h
at_most at start (e ∷ es) h =
    at_most at (next_start (nat_le e at) start e) es (within (nat_le e at) at start e refl h)

one_of : (b : Bool) (start e : ℕ) → (next_start b start e ≡ start) ⊎ (next_start b start e ≡ e)
one_of true start e = larger (nat_le start e) refl
  where
    larger : (c : Bool) → nat_le start e ≡ c → (max start e ≡ start) ⊎ (max start e ≡ e)
    larger true d = inr (grind arith)
    larger false d = inl (grind arith)
one_of false start e = inl refl

reached : (at start : ℕ) (ends : List ℕ) → (gap_from at start ends ≡ start) ⊎ Contains ends (gap_from at start ends)
reached at start [] = inl refl
reached at start (e ∷ es) =
    ⊎_elim
    (λ same. ⊎_elim (λ old. inl (same ∙ old)) (λ new.
    inr (subst (λ n. Contains (e ∷ es) n) (sym (same ∙ new)) (here e es))) (one_of (nat_le e at) start e))
    (λ later_one. inr (later e es (gap_from at (next_start (nat_le e at) start e) es) later_one))
    (reached at (next_start (nat_le e at) start e) es)

-- each end that is not past the address is not past the gap's beginning
taken : (b : Bool) (at start e : ℕ) → nat_le e at ≡ b → e ≤ at → e ≤ next_start b start e
taken true at start e d h = omega arith
taken false at start e d h = absurd (let no : ⊥ = grind arith in no)

not_past : (at start : ℕ) (ends : List ℕ) → Each (λ e. e ≤ at → e ≤ gap_from at start ends) ends
not_past at start [] = tt
not_past at start (e ∷ es) = (
  λ l. let first = taken (nat_le e at) at start e refl l in let rest =
      at_least at (next_start (nat_le e at) start e) es in omega arith,
  not_past at (next_start (nat_le e at) start e) es,
)

-- what is bare at an address is bare from there back to any number that the ends of all before it have reached
module _ {X : Type 0} (start size : X → ℕ) (at from x : ℕ) (l : from ≤ x) (r : x ≤ at) where
  bare_of : (xs : List X) → find (λ y. covers (start y) (size y) at) xs ≡ None
      → Each (λ y. 0 < size y → start y + size y ≤ at → start y + size y ≤ from) xs
      → find (λ y. covers (start y) (size y) x) xs ≡ None
  bare_of [] h e = refl
  bare_of (y ∷ ys) h e = by (covers (start y) (size y) at) refl h (bare_of ys)
    where
      other : (c : Bool) → covers (start y) (size y) x ≡ c → covers (start y) (size y) at ≡ false → c ≡ false
      other false d o = refl
      other true d o = absurd (let no : ⊥ = grind (arith, e.0) in no)

      by : (b : Bool) → covers (start y) (size y) at ≡ b
          → cond b (Some y) (find (λ z. covers (start z) (size z) at) ys) ≡ None
          → (find (λ z. covers (start z) (size z) at) ys ≡ None
          → Each (λ z. 0 < size z → start z + size z ≤ at → start z + size z ≤ from) ys
          → find (λ z. covers (start z) (size z) x) ys ≡ None)
          → cond (covers (start y) (size y) x) (Some y) (find (λ z. covers (start z) (size z) x) ys) ≡ None
      by true d k more = absurd (let no : ⊥ = cc in no)
      by false d k more =
          subst (λ c. cond c (Some y) (find (λ z. covers (start z) (size z) x) ys)
          ≡ None) (sym (other (covers (start y) (size y) x) refl d)) (more k (e.1))

-- the ends of input sections of nonzero size, and of data commands
abbrev pub end_of_piece : PlacedPiece → ℕ
end_of_piece x = x.start + x.piece.size

abbrev pub end_of_data : PlacedData → ℕ
end_of_data d = d.start + length d.bytes

pieces_ended : (at from : ℕ) (ps : List PlacedPiece) (es : List ℕ)
    → Each (λ e. e ≤ at → e ≤ from) (map end_of_piece (filter (λ (x : PlacedPiece). not (x.piece.size == 0)) ps) ++ es)
    → Each (λ (y : PlacedPiece). 0 < y.piece.size → y.start + y.piece.size ≤ at → y.start + y.piece.size ≤ from) ps
    × Each (λ e. e ≤ at → e ≤ from) es
pieces_ended at from [] es h = (tt, h)
pieces_ended at from (p ∷ ps) es h = by (p.piece.size == 0) refl h (pieces_ended at from ps es)
  where
    by : (b : Bool) → (p.piece.size == 0) ≡ b
        → Each (λ e. e ≤ at → e ≤ from)
        (map end_of_piece (cond (not b) (p ∷ filter (λ (x : PlacedPiece). not (x.piece.size == 0)) ps)
        (filter (λ (x : PlacedPiece). not (x.piece.size == 0)) ps)) ++ es)
        → (Each (λ e. e ≤ at → e ≤ from) (map end_of_piece (filter (λ (x : PlacedPiece). not (x.piece.size == 0)) ps)
        ++ es)
        → Each (λ (y : PlacedPiece). 0 < y.piece.size → y.start + y.piece.size ≤ at → y.start + y.piece.size ≤ from) ps
        × Each (λ e. e ≤ at → e ≤ from) es)
        → Each (λ (y : PlacedPiece). 0 < y.piece.size → y.start + y.piece.size ≤ at → y.start + y.piece.size ≤ from)
        (p ∷ ps) × Each (λ e. e ≤ at → e ≤ from) es
    by true d h more = let m = more h in ((λ z l. absurd (let no : ⊥ = grind arith in no), m.0), m.1)
    by false d h more = let m = more (h.1) in ((λ z l. h.0 l, m.0), m.1)

data_ended : (at from : ℕ) (ds : List PlacedData) → Each (λ e. e ≤ at → e ≤ from) (map end_of_data ds)
    → Each (λ (y : PlacedData). 0 < length y.bytes → y.start + length y.bytes ≤ at → y.start + length y.bytes ≤ from) ds
data_ended at from [] h = tt
data_ended at from (d ∷ ds) h = (λ z l. h.0 l, data_ended at from ds (h.1))

pub gap_starts : (q : PlacedOutput) (at : ℕ) → q.start ≤ at → IsBare q at → IsGapStart q at (gap_start q at)
gap_starts q at h bare =
    let ended = pieces_ended at (gap_start q at) q.pieces (map end_of_data q.data_commands)
    (not_past at q.start (ends_in q)) in
    record {
      inside = at_least at q.start (ends_in q);
      before = at_most at q.start (ends_in q) h;
      bare = λ x l r. record {
        piece = bare_of (λ (y : PlacedPiece). y.start) (λ (y : PlacedPiece). y.piece.size) at (gap_start q at) x l r
            q.pieces bare.piece (ended.0);
        data_command = bare_of (λ (y : PlacedData). y.start) (λ (y : PlacedData). length y.bytes) at (gap_start q at) x
            l r q.data_commands bare.data_command
            (data_ended at (gap_start q at) q.data_commands (ended.1));
      };
      longest = reached at q.start (ends_in q);
    }
