-- Names that are taken back: those after the first ones are dropped.
use Rattle.symres_table.proofs.Common.{Bool, CalledAt, List, MutBor, None, Option, RetainsFrom, Some, Vec, [], ap}
use Rattle.symres_table.proofs.Common.{arith, cond, entry_spelled, false, get_or, kept_if, length, lookup, map, refl}
use Rattle.symres_table.proofs.Common.{subst, suc, take, true, zero, ℕ, ◌++◌, ◌+◌, ◌<◌, ◌∙◌, ◌∷◌, ◌≡◌}
use Rattle.std.proofs.Common.{Global}

abbrev Name : Type 0
Name = Vec ℕ Global

-- what a slab's `retain` leaves, where the closure keeps no state and leaves each value as it was
pub retained_by : {F : Type 0} (step : F → ℕ → MutBor ℕ → Bool → MutBor ℕ → F → Type 0) (test : ℕ → Bool) (f : F)
    → ((key old : ℕ) (keep : Bool) (new : ℕ) (next : F) → CalledAt step f key old keep new next
    → (keep ≡ test old) × (new ≡ old) × (next ≡ f))
    → (key : ℕ) (slots kept : List (Option ℕ)) → RetainsFrom step f key slots kept → (n : ℕ) → get_or kept n None
    ≡ kept_if test (get_or slots n None)
retained_by step test f says key [] kept h n = ap (λ l. get_or l n None) h
retained_by step test f says key (None ∷ rest) kept h zero = ap (λ l. get_or l 0 None) h.1
retained_by step test f says key (None ∷ rest) kept h (suc m) =
    ap (λ l. get_or l (suc m) None) h.1 ∙ retained_by step test f says (key + 1) rest h.0 h.2 m
retained_by step test f says key (Some old ∷ rest) kept h zero =
    let s = says key old h.0 h.1 h.2 h.3 in
    ap (λ l. get_or l 0 None) h.5 ∙ ap (λ v. cond h.0 (Some v) None) s.1
    ∙ ap (λ b. cond b (Some old) None) s.0
retained_by step test f says key (Some old ∷ rest) kept h (suc m) =
    let s = says key old h.0 h.1 h.2 h.3 in
    ap (λ l. get_or l (suc m) None) h.5
    ∙ retained_by step test f says (key + 1) rest h.4 (subst (λ g. RetainsFrom step g (key + 1) rest h.4) s.2 h.6) m

-- what is found in a part is found in the whole
pub in_whole : (t : Name → Bool) (xs ys : List (Name × ℕ)) (n : ℕ) → lookup t xs ≡ Some n → lookup t (xs ++ ys) ≡ Some n
in_whole t [] ys n h = absurd (cc)
in_whole t (x ∷ xs) ys n h = go (t x.0) h (in_whole t xs ys n)
  where
    go : (b : Bool) → cond b (Some x.1) (lookup t xs) ≡ Some n → (lookup t xs ≡ Some n → lookup t (xs ++ ys) ≡ Some n)
        → cond b (Some x.1) (lookup t (xs ++ ys)) ≡ Some n
    go true h f = h
    go false h f = f h

-- an entry is found, if not the first of its name
pub found_entry : (t : Name → Bool) (xs : List (Name × ℕ)) (j : ℕ) (d : Name × ℕ) → j < length xs → t (get_or xs j d).0
    ≡ true → (m : ℕ) × (lookup t xs ≡ Some m)
found_entry t [] j d l h = absurd (omega (arith, l))
found_entry t (x ∷ xs) zero d l h = (x.1, ap (λ b. cond b (Some x.1) (lookup t xs)) h)
found_entry t (x ∷ xs) (suc j) d l h = go (t x.0) (found_entry t xs j d (omega (arith, l)) h)
  where
    go : (b : Bool) → ((m : ℕ) × (lookup t xs ≡ Some m)) → (m : ℕ) × (cond b (Some x.1) (lookup t xs) ≡ Some m)
    go true r = (x.1, refl)
    go false r = r

pub map_take : (n : ℕ) (es : List (Name × ℕ)) → map entry_spelled (take n es) ≡ take n (map entry_spelled es)
map_take zero [] = refl
map_take (suc n) [] = refl
map_take zero (e ∷ es) = refl
map_take (suc n) (e ∷ es) = ap (λ l. entry_spelled e ∷ l) (map_take n es)
