use Rattle.std.proofs.Common.{◌≡◌, ℕ, zero, suc, ◌-◌, ◌≤◌, List, [], ◌∷◌, ◌++◌, length, take, ap, sym, arith, ◌∙◌}
use Rattle.std.proofs.lemmas.List.{take_at}

-- what is read on, up to a limit of both
pub take_both : (first rest : List ℕ) (most : ℕ) → length first ≤ most
    → first ++ take (most - length first) rest ≡ take most (first ++ rest)
take_both [] rest most h = let e : most - 0 ≡ most = omega arith in ap (λ k. take k rest) e
take_both (x ∷ xs) rest zero h = absurd (omega (arith, h))
take_both (x ∷ xs) rest (suc n) h =
    let le : length xs ≤ n = omega (arith, h) in
    let e : suc n - suc (length xs) ≡ n - length xs = omega arith in
    ap (λ k. x ∷ (xs ++ take k rest)) e ∙ ap (λ l. x ∷ l) (take_both xs rest n le)

-- a first read of all that there is said to be
pub take_first : (first rest : List ℕ) (n : ℕ) → length first ≡ n → first ≡ take n (first ++ rest)
take_first first rest n e = sym (take_at first rest n e)
