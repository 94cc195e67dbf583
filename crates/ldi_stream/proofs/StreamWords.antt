-- Bytes that are looked for, and numbers.
use Rattle.ldi_stream.proofs.Common.{Err, HasNo, List, None, Ok, Option, Result, Some, [], ap, arith, decimal, drop}
use Rattle.ldi_stream.proofs.Common.{eq-eqb, eqb-true, false, false≢true, length, length-drop, parse-decimal, subst}
use Rattle.ldi_stream.proofs.Common.{suc, sym, take, take_all, true, zero, ℕ, ◌++◌, ◌+◌, ◌-◌, ◌<◌, ◌^◌, ◌∙◌, ◌∷◌, ◌≡◌}
use Rattle.ldi_stream.proofs.Common.{◌≤◌}
use Rattle.std.proofs.Common.{get_or, IfNone, add-one, take-append-drop, drop-cons}
use Rattle.std.specs.Str.{bytes_eq}
use Rattle.std.specs.Str.Parse.{ParsesUnsigned}
use Rattle.std.proofs.lemmas.Slice.Eq.{bytes_eq-Decides}
use Rattle.bstr.specs.Find.{IsFirstByte, Passes, Nowhere, is_byte}

-- ---- a byte that is looked for

no_front : (b : ℕ) (xs : List ℕ) (k : ℕ) → k ≤ length xs → ((j : ℕ) → j < k → ¬ Passes (is_byte b) xs j)
    → HasNo b (take k xs)
no_front b [] zero h n = tt
no_front b [] (suc k) h n = absurd (omega (arith, h))
no_front b (x ∷ xs) zero h n = tt
no_front b (x ∷ xs) (suc k) h n = (
  λ e. n 0 (omega arith) (eq-eqb x b e),
  no_front b xs k (omega (arith, h))
      (λ j l p. n (suc j) (omega (arith, l)) p),
)

pub no_byte : (b : ℕ) (xs : List ℕ) → Nowhere (Passes (is_byte b) xs) 0 (length xs) → HasNo b xs
no_byte b xs h =
    subst (HasNo b) (take_all (length xs) xs (omega arith))
    (no_front b xs (length xs) (omega arith) (λ j l. h j (omega arith) l))

pub has_byte : (b : ℕ) (xs : List ℕ) (k : ℕ) → HasNo b xs → k < length xs → Passes (is_byte b) xs k → ⊥
has_byte b [] k h l p = omega (arith, l)
has_byte b (x ∷ xs) zero h l p = h.0 (eqb-true x b p)
has_byte b (x ∷ xs) (suc k) h l p = has_byte b xs k h.1 (omega (arith, l)) p

-- what `split_word` gives around the first space
pub split_there : (b : ℕ) (xs : List ℕ) (k : ℕ) → IsFirstByte (is_byte b) xs (Some k)
    → (xs ≡ take k xs ++ b ∷ take (length xs - (k + 1)) (drop (k + 1) xs)) × HasNo b (take k xs)
split_there b xs k h =
    let within = h.0.high in
    let here : get_or xs k 0 ≡ b = eqb-true _ _ h.1 in
    let rest : take (length xs - (k + 1)) (drop (k + 1) xs) ≡ drop (k + 1) xs = take_all _ _
    (simp length-drop (omega arith)) in
    let at : drop k xs ≡ get_or xs k 0 ∷ drop (k + 1) xs = rw add-one (drop-cons xs k 0 within) in (
      sym (take-append-drop k xs) ∙ ap (λ l. take k xs ++ l) (at ∙ ap (λ x. x ∷ drop (k + 1) xs) here)
          ∙ ap (λ l. take k xs ++ b ∷ l) (sym rest),
      no_front b xs k (omega arith) (λ j l. h.0.before j (omega arith) l),
    )

-- ---- tests and numbers

pub bytes_same : (xs ys : List ℕ) → true ≡ bytes_eq xs ys → xs ≡ ys
bytes_same xs ys e = (bytes_eq-Decides xs ys).0 (sym e)

pub bytes_differ : (xs ys : List ℕ) → false ≡ bytes_eq xs ys → xs ≡ ys → ⊥
bytes_differ xs ys e same = false≢true (e ∙ (bytes_eq-Decides xs ys).1 same)

pub no_parse : {E : Type 0} (bs : List ℕ) (n : ℕ) (e : E) → n < 2 ^ 64 → bs ≡ decimal n
    → ParsesUnsigned 64 10 bs (Err e) → ⊥
no_parse bs n e small text h = let ok = parse-decimal 64 n bs (Err e) small small text h in cc

pub one_parse : {E : Type 0} (bs : List ℕ) (n m : ℕ) (r : Result ℕ E) → n < 2 ^ 64 → bs ≡ decimal n → r ≡ Ok m
    → ParsesUnsigned 64 10 bs r → m ≡ n
one_parse bs n m r small text is h = let ok = parse-decimal 64 n bs r small small text h in cc

pub if_none : {A : Type 0} (r : Option A) (P : Type 0) → P → IfNone r P
if_none None P p = p
if_none (Some x) P p = tt
