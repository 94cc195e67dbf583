-- Bytes written over the bytes of a file, one list after another.
use Rattle.emit.proofs.Common.{All, AreWritten, Bytes, ComesOf, Contains-append_cases, Contains-append_left}
use Rattle.emit.proofs.Common.{Contains-append_right, Counts, IsAsBefore, IsWithin, List, PlannedSection, Written, []}
use Rattle.emit.proofs.Common.{add-one, ap, arith, capped, cases_lt, count_of, first_or_later, get_or, get_or-map, here}
use Rattle.emit.proofs.Common.{inl, inr, length, length-map, map-append, none_in_nil, patched_byte, raised, slice_index}
use Rattle.emit.proofs.Common.{subst, sum_by, sum_by-append, sum_by-cons, sym, take, take-suc, written, written_all, ℕ}
use Rattle.emit.proofs.Common.{⊎_elim, ◌++◌, ◌+◌, ◌-◌, ◌<◌, ◌^◌, ◌∙◌, ◌∷◌, ◌≡◌, ◌≤◌, ◌⊎◌}

-- what a write changes
pub record IsStep (w : Written) (old new : List ℕ) : Type 0 where
  pub own : (i : ℕ) → i < length w.bytes → slice_index new (w.at + i) ≡ patched_byte w.bytes w.run i
  pub before : (o : ℕ) → o < w.at → slice_index new o ≡ slice_index old o
  pub after : (o : ℕ) → w.at + length w.bytes ≤ o → slice_index new o ≡ slice_index old o
  pub length : length new ≡ length old

module _ (ws : List Written) (w : Written) (a b c : List ℕ) (h : AreWritten ws a b) (step : IsStep w b c) where
  -- a byte that the last write leaves alone
  left : (o : ℕ) → (o < w.at) ⊎ (w.at + length w.bytes ≤ o) → slice_index c o ≡ slice_index b o
      → ComesOf (ws ++ w ∷ []) c o ⊎ IsAsBefore (ws ++ w ∷ []) a c o
  left o out same = ⊎_elim
      (λ (k : ComesOf ws b o). inl (record {
        origin = k.origin;
        among = Contains-append_left ws (w ∷ []) k.origin k.among;
        above = k.above;
        below = k.below;
        byte = same ∙ k.byte;
      }))
      (λ (k : IsAsBefore ws a b o). inr (record {
        clear = λ v d. ⊎_elim (k.clear v)
            (λ e. ⊎_elim (λ is. subst (λ (u : Written). (o < u.at) ⊎ (u.at + length u.bytes ≤ o)) is out)
            (λ f. absurd (none_in_nil v f)) (first_or_later w [] v e))
            (Contains-append_cases ws (w ∷ []) v d);
        byte = same ∙ k.byte;
      }))
      (h.each o)

  own : (o : ℕ) → w.at ≤ o → o < w.at + length w.bytes → ComesOf (ws ++ w ∷ []) c o
  own o above below =
      let i : ℕ = o - w.at in
      let at : w.at + i ≡ o = omega (arith, above) in
      record {
        origin = w;
        among = Contains-append_right ws (w ∷ []) w (here w []);
        above = above;
        below = below;
        byte = ap (slice_index c) (sym at) ∙ step.own i (omega (arith, above, below));
      }

  pub more_written : AreWritten (ws ++ w ∷ []) a c
  more_written = record {
    length = step.length ∙ h.length;
    each = λ o. elim (cases_lt o w.at) [
      | inl x ↦ left o (inl x) (step.before o x)
      | inr x ↦ elim (cases_lt o (w.at + length w.bytes)) [
        | inl y ↦ inl (own o x y)
        | inr y ↦ left o (inr y) (step.after o y)
      ]
    ];
  }

-- ---- lists

pub one_more : (rs : List PlannedSection) (i : ℕ) (r : PlannedSection) → i < length rs → r ≡ get_or rs i r
    → written_all (take (i + 1) rs) ≡ written_all (take i rs) ++ written r ∷ []
one_more rs i r low is =
    ap (λ n. written_all (take n rs)) (add-one i) ∙ ap written_all (take-suc rs i r low)
    ∙ map-append written (take i rs) (get_or rs i r ∷ [])
    ∙ ap (λ u. written_all (take i rs) ++ written u ∷ []) (sym is)

-- ---- the count

pub none_raised : (m : Counts) → m.bytes < 2 ^ 64 → m ≡ raised m Bytes 0
none_raised m h =
    let e : m.bytes ≡ capped m.bytes 0 = omega arith in
    ap (λ n. record m { bytes = n }) e

pub both_raised : (m : Counts) (a b : ℕ) → raised (raised m Bytes a) Bytes b ≡ raised m Bytes (a + b)
both_raised m a b =
    let e : capped (capped m.bytes a) b ≡ capped m.bytes (a + b) = omega arith in
    ap (λ n. record m { bytes = n }) e

pub more_raised : (m : Counts) (ws : List Written) (w : Written)
    → raised (raised m Bytes (sum_by count_of ws)) Bytes (length w.bytes)
    ≡ raised m Bytes (sum_by count_of (ws ++ w ∷ []))
more_raised m ws w =
    let split = sum_by-append count_of ws (w ∷ []) in
    let last = sum_by-cons count_of w [] in
    let e : sum_by count_of ws + length w.bytes ≡ sum_by count_of (ws ++ w ∷ []) = omega (arith, split, last) in
    both_raised m (sum_by count_of ws) (length w.bytes) ∙ ap (raised m Bytes) e

-- ---- what is planned lies within the file

pub each_within : (limit : ℕ) (rs : List PlannedSection) (i : ℕ) (r : PlannedSection) → i < length rs
    → r ≡ get_or rs i r
    → All (IsWithin limit) (written_all rs) → IsWithin limit (written r)
each_within limit rs i r low is h =
    let many = length-map rs written in
    let here_in : IsWithin limit (get_or (written_all rs) i (written r)) = h i (written r) (omega (arith, many, low)) in
    subst (IsWithin limit) (get_or-map written rs i r (written r) low ∙ ap written (sym is)) here_in
