-- Pairs of hex digits.
use Rattle.ldscript_statements.proofs.Common.{List, None, Some, [], ap, arith, hex_bytes, hex_pair, slice_index, subst}
use Rattle.ldscript_statements.proofs.Common.{suc, sym, with_pair, zero, ℕ, ◌*◌, ◌++◌, ◌+◌, ◌-◌, ◌∙◌, ◌∷◌, ◌≡◌, ◌≤◌}

-- where a pair is none, no more pairs make it good
more_none : (digits : List ℕ) (i k : ℕ) → hex_bytes digits i ≡ None → hex_bytes digits (k + i) ≡ None
more_none digits i zero e = let p : i ≡ zero + i = omega arith in subst (λ m. hex_bytes digits m ≡ None) p e
more_none digits i (suc k) e =
    let p : suc (k + i) ≡ suc k + i = omega arith in
    subst (λ m. hex_bytes digits m ≡ None) p
    (ap (λ b. with_pair b (hex_pair (slice_index digits (2 * (k + i))) (slice_index digits (2 * (k + i) + 1))))
    (more_none digits i k e))

none_from : (digits : List ℕ) (i n : ℕ) → i ≤ n → hex_bytes digits i ≡ None → hex_bytes digits n ≡ None
none_from digits i n h e =
    let p : (n - i) + i ≡ n = omega (arith, h) in
    subst (λ m. hex_bytes digits m ≡ None) p (more_none digits i (n - i) e)

same_pair : (digits : List ℕ) (i a b : ℕ) → a ≡ slice_index digits (2 * i) → b ≡ slice_index digits (2 * i + 1)
    → hex_pair a b ≡ hex_pair (slice_index digits (2 * i)) (slice_index digits (2 * i + 1))
same_pair digits i a b e f = ap (λ x. hex_pair x b) e ∙ ap (hex_pair (slice_index digits (2 * i))) f

-- one more pair
pub pair_some : (digits : List ℕ) (i a b byte : ℕ) (bytes : List ℕ) → hex_bytes digits i ≡ Some bytes
    → a ≡ slice_index digits (2 * i) → b ≡ slice_index digits (2 * i + 1)
    → Some byte ≡ hex_pair a b → hex_bytes digits (i + 1) ≡ Some (bytes ++ byte ∷ [])
pair_some digits i a b byte bytes h e f p =
    let n : suc i ≡ i + 1 = omega arith in
    subst (λ m. hex_bytes digits m ≡ Some (bytes ++ byte ∷ [])) n
    (ap (λ o. with_pair o (hex_pair (slice_index digits (2 * i)) (slice_index digits (2 * i + 1)))) h
    ∙ ap (with_pair (Some bytes)) (sym (p ∙ same_pair digits i a b e f)))

pub pair_none : (digits : List ℕ) (i a b n : ℕ) (bytes : List ℕ) → hex_bytes digits i ≡ Some bytes
    → a ≡ slice_index digits (2 * i) → b ≡ slice_index digits (2 * i + 1)
    → None ≡ hex_pair a b → suc i ≤ n → hex_bytes digits n ≡ None
pair_none digits i a b n bytes h e f p k =
    none_from digits (suc i) n k
    (ap (λ o. with_pair o (hex_pair (slice_index digits (2 * i)) (slice_index digits (2 * i + 1)))) h
    ∙ ap (with_pair (Some bytes)) (sym (p ∙ same_pair digits i a b e f)))
