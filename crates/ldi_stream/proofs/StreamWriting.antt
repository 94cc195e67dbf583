use Rattle.ldi_stream.proofs.Common.{Appends, Appends-kept, Appends-trans, Err, Keeps, List, Ok, Option, Result, Writes}
use Rattle.ldi_stream.proofs.Common.{[], ap, arith, common_steps, length, refl, subst, suc, take, take-append-add, zero}
use Rattle.ldi_stream.proofs.Common.{ℕ, ◌++◌, ◌+◌, ◌∷◌, ◌≡◌}
use Rattle.std.specs.Result.{IsErrAnd, MatchResult}

-- a beginning of the text
abbrev pub Part : Option (List ℕ) → Option (List ℕ) → List ℕ → Type 0
Part a b text = (n : ℕ) × Appends a b (take n text)

take_front : (n : ℕ) (x y : List ℕ) → (m : ℕ) × (take n x ≡ take m (x ++ y))
take_front n [] y = (0, grind (arith, common_steps))
take_front zero (a ∷ x) y = (0, refl)
take_front (suc n) (a ∷ x) y = let t = take_front n x y in (suc t.0, ap (λ l. a ∷ l) t.1)

pub Part-front : (a b : Option (List ℕ)) (x y : List ℕ) → Part a b x → Part a b (x ++ y)
Part-front a b x y p = let t = take_front p.0 x y in (t.0, subst (Appends a b) t.1 p.1)

pub Part-then : (a b c : Option (List ℕ)) (x y : List ℕ) → Appends a b x → Part b c y → Part a c (x ++ y)
Part-then a b c x y h p = (length x + p.0, rw take-append-add (Appends-trans a b c x (take p.0 y) h p.1))

pub Part-whole : (a b c : Option (List ℕ)) (x : List ℕ) → Appends a b x → Keeps b c → Part a c x
Part-whole a b c x h k = (length x, rw (take_all x) (Appends-kept a b c x h k))
  where
    take_all : (x : List ℕ) → take (length x) x ≡ x
    take_all x = grind (arith, common_steps)

pub Writes-cut : {T E : Type 0} (Q : E → Type 0) (a b : Option (List ℕ)) (text : List ℕ) (r : Result T E)
    → IsErrAnd r Q → Part a b text → Writes a b text r
Writes-cut Q a b text (Ok x) h p = absurd h
Writes-cut Q a b text (Err e) h p = p

-- a last call, returned as it is
pub Writes-then : {T E : Type 0} (a b c : Option (List ℕ)) (x y : List ℕ) (r : Result T E) → Appends a b x
    → Writes b c y r → Writes a c (x ++ y) r
Writes-then a b c x y (Ok v) h w = Appends-trans a b c x y h w
Writes-then a b c x y (Err e) h w = Part-then a b c x y h w

pub Writes-kept : {T E : Type 0} (a b c : Option (List ℕ)) (x : List ℕ) (r : Result T E) → Appends a b x → Keeps b c
    → Writes a c x r
Writes-kept a b c x (Ok v) h k = Appends-kept a b c x h k
Writes-kept a b c x (Err e) h k = Part-whole a b c x h k

-- what `write_all` ensures, as one fact
pub Writes-both : {T E : Type 0} (a b : Option (List ℕ)) (x : List ℕ) (r : Result T E)
    → MatchResult r (λ _. Appends a b x) (λ _. Unit {0}) → MatchResult r (λ _. Unit {0}) (λ _. Part a b x)
    → Writes a b x r
Writes-both a b x (Ok v) h k = h
Writes-both a b x (Err e) h k = k
