-- Bytes up to the first of a kind.
use Rattle.ldi_stream.proofs.Common.{HasNo, List, [], and_parts, arith, decimal, decimal_by_steps, eq-eqb, false}
use Rattle.ldi_stream.proofs.Common.{false≢true, length, refl, true, ℕ, ◌++◌, ◌+◌, ◌<◌, ◌==◌, ◌^◌, ◌∷◌, ◌≡◌, ◌≢◌, ◌≤◌}
use Rattle.std.proofs.Common.{◌%◌, Bool, not, ◌&&◌}

no-append : (b : ℕ) (xs ys : List ℕ) → HasNo b xs → HasNo b ys → HasNo b (xs ++ ys)
no-append b [] ys h k = k
no-append b (x ∷ xs) ys h k = (h.0, no-append b xs ys h.1 k)

-- two texts that are cut at their first byte of a kind
pub first_cut : (s : ℕ) (a b x y : List ℕ) → HasNo s a → HasNo s b → a ++ s ∷ x ≡ b ++ s ∷ y → (a ≡ b) × (x ≡ y)
first_cut s [] [] x y p q e = (refl, cc)
first_cut s [] (b ∷ bs) x y p q e = absurd (q.0 cc)
first_cut s (a ∷ az) [] x y p q e = absurd (p.0 cc)
first_cut s (a ∷ az) (b ∷ bs) x y p q e =
    let rest : az ++ s ∷ x ≡ bs ++ s ∷ y = cc in
    let same = first_cut s az bs x y p.1 q.1 rest in
    (let f = same.0 in cc, same.1)

-- bytes without the kind, and a text that has it
pub no_cut : (s : ℕ) (a b y : List ℕ) → HasNo s a → a ≡ b ++ s ∷ y → ⊥
no_cut s [] [] y p e = cc
no_cut s [] (b ∷ bs) y p e = cc
no_cut s (a ∷ az) [] y p e = p.0 cc
no_cut s (a ∷ az) (b ∷ bs) y p e = let rest : az ≡ bs ++ s ∷ y = cc in no_cut s az bs y p.1 rest

-- bytes without the kind are no longer than the front that ends at it
pub within_cut : (s : ℕ) (a b x y : List ℕ) → HasNo s a → a ++ x ≡ b ++ s ∷ y → length a ≤ length b
within_cut s [] b x y p e = omega arith
within_cut s (a ∷ az) [] x y p e = absurd (p.0 cc)
within_cut s (a ∷ az) (b ∷ bs) x y p e =
    let rest : az ++ x ≡ bs ++ s ∷ y = cc in
    omega (arith, within_cut s az bs x y p.1 rest)

pub decimal_no : (b n : ℕ) → b < 48 → n < 2 ^ 64 → HasNo b (decimal n)
decimal_no b n low small =
    decimal_by_steps (λ _ ds. HasNo b ds) (λ d _. (λ e. absurd (omega (arith, e)), tt))
    (λ d ds _ h. no-append b ds ((48 + d % 10) ∷ []) h (λ e. absurd (omega (arith, e)), tt)) n small

-- a test of literal bytes
abbrev pub has_no : ℕ → List ℕ → Bool
has_no b [] = true
has_no b (x ∷ xs) = not (x == b) && has_no b xs

differs : (x b : ℕ) → not (x == b) ≡ true → x ≢ b
differs x b e same = false≢true (rw (eq-eqb x b same) at e)

pub no_by_test : (b : ℕ) (xs : List ℕ) → has_no b xs ≡ true → HasNo b xs
no_by_test b [] e = tt
no_by_test b (x ∷ xs) e = let two = and_parts (not (x == b)) (has_no b xs) e in
    (differs x b two.0, no_by_test b xs two.1)
