-- Members of lists, of filtered lists, and of lists in which some member passes a test.
use Rattle.ldmodel_laws.proofs.Common.{Bool, Contains, List, Some, [], ap, arith, cond, false, filter, get_or, inl, inr}
use Rattle.ldmodel_laws.proofs.Common.{length, list_any, or_cases, or_left, or_right, refl, slice_get, subst, suc, sym}
use Rattle.ldmodel_laws.proofs.Common.{true, true≢false, zero, ℕ, ⊎_elim, ◌<◌, ◌∙◌, ◌∷◌, ◌≡◌, ◌≤◌, ◌⊎◌}
use Rattle.std.proofs.lemmas.Option.{same_Some}

pub here : {X : Type 0} (x : X) (xs : List X) → Contains (x ∷ xs) x
here x xs = (0, omega arith, refl)

pub later : {X : Type 0} (y : X) (ys : List X) (x : X) → Contains ys x → Contains (y ∷ ys) x
later y ys x c = (suc c.0, omega (arith, c.1), c.2)

member_at : {X : Type 0} (y : X) (ys : List X) (x : X) (k : ℕ) → k < length (y ∷ ys) → get_or (y ∷ ys) k x ≡ x
    → (y ≡ x) ⊎ Contains ys x
member_at y ys x zero l e = inl e
member_at y ys x (suc k) l e = inr (k, omega (arith, l), e)

pub first_or_later : {X : Type 0} (y : X) (ys : List X) (x : X) → Contains (y ∷ ys) x → (y ≡ x) ⊎ Contains ys x
first_or_later y ys x c = member_at y ys x c.0 c.1 c.2

pub none_in_nil : {X : Type 0} (x : X) → Contains [] x → ⊥
none_in_nil x c = omega (arith, c.1)

pub at_place : {X : Type 0} (xs : List X) (k : ℕ) (x : X) → slice_get xs k ≡ Some x → Contains xs x
at_place [] k x e = absurd (let none : ⊥ = cc in none)
at_place (y ∷ ys) zero x e = subst (λ z. Contains (y ∷ ys) z) (same_Some _ _ e) (here y ys)
at_place (y ∷ ys) (suc k) x e = later y ys x (at_place ys k x e)

-- what a filter keeps is in the list and passes the test
pub in_filter : {X : Type 0} (p : X → Bool) (xs : List X) (x : X) → Contains (filter p xs) x → Contains xs x
    × (p x ≡ true)
in_filter p [] x c = absurd (none_in_nil x c)
in_filter p (y ∷ ys) x c = go (p y) refl c (in_filter p ys x)
  where
    go : (b : Bool) → p y ≡ b → Contains (cond b (y ∷ filter p ys) (filter p ys)) x
        → (Contains (filter p ys) x → Contains ys x × (p x ≡ true)) → Contains (y ∷ ys) x × (p x ≡ true)
    go true e c rest = ⊎_elim
        (λ same. (subst (λ z. Contains (y ∷ ys) z) same (here y ys), subst (λ z. p z ≡ true) same e))
        (λ in_rest. (later y ys x (rest in_rest).0, (rest in_rest).1))
        (first_or_later y (filter p ys) x c)
    go false e c rest = (later y ys x (rest c).0, (rest c).1)

pub filter_in : {X : Type 0} (p : X → Bool) (xs : List X) (x : X) → Contains xs x → p x ≡ true
    → Contains (filter p xs) x
filter_in p [] x c h = absurd (none_in_nil x c)
filter_in p (y ∷ ys) x c h = go (p y) refl (first_or_later y ys x c) (λ in_rest. filter_in p ys x in_rest h)
  where
    go : (b : Bool) → p y ≡ b → (y ≡ x) ⊎ Contains ys x → (Contains ys x → Contains (filter p ys) x)
        → Contains (cond b (y ∷ filter p ys) (filter p ys)) x
    go true e (inl same) rest = subst (λ z. Contains (y ∷ filter p ys) z) same (here y (filter p ys))
    go true e (inr in_rest) rest = later y (filter p ys) x (rest in_rest)
    go false e (inl same) rest = absurd (true≢false (sym (subst (λ z. p z ≡ true) (sym same) h) ∙ e))
    go false e (inr in_rest) rest = rest in_rest

-- a member that passes a test
pub record Passes {X : Type 0} (p : X → Bool) (xs : List X) : Type 0 where
  pub member : X
  pub among : Contains xs member
  pub passes : p member ≡ true

pub any_in : {X : Type 0} (p : X → Bool) (xs : List X) (x : X) → Contains xs x → p x ≡ true → list_any p xs ≡ true
any_in p [] x c h = absurd (none_in_nil x c)
any_in p (y ∷ ys) x c h = ⊎_elim
    (λ same. or_left (p y) (list_any p ys) (subst (λ z. p z ≡ true) (sym same) h))
    (λ in_rest. or_right (p y) (list_any p ys) (any_in p ys x in_rest h))
    (first_or_later y ys x c)

pub in_any : {X : Type 0} (p : X → Bool) (xs : List X) → list_any p xs ≡ true → Passes p xs
in_any p [] h = absurd (true≢false (sym h))
in_any p (y ∷ ys) h = ⊎_elim
    (λ e. record { member = y; among = here y ys; passes = e })
    (λ e. let rest : Passes p ys = in_any p ys e in
    record { member = rest.member; among = later y ys rest.member rest.among; passes = rest.passes })
    (or_cases (p y) (list_any p ys) h)

pub filter_shorter : {X : Type 0} (p : X → Bool) (xs : List X) → length (filter p xs) ≤ length xs
filter_shorter p [] = omega arith
filter_shorter p (y ∷ ys) = go (p y) (filter_shorter p ys)
  where
    go : (b : Bool) → length (filter p ys) ≤ length ys
        → length (cond b (y ∷ filter p ys) (filter p ys)) ≤ length (y ∷ ys)
    go true h = omega (arith, h)
    go false h = omega (arith, h)

-- where one test passes all that another does, its filter is the other's or longer
pub same_or_longer : {X : Type 0} (p q : X → Bool) (xs : List X) → ((x : X) → p x ≡ true → q x ≡ true)
    → (filter p xs ≡ filter q xs) ⊎ (length (filter p xs) < length (filter q xs))
same_or_longer p q [] h = inl refl
same_or_longer {X} p q (y ∷ ys) h = go (p y) (q y) refl refl (same_or_longer p q ys h)
  where
    go : (b c : Bool) → p y ≡ b → q y ≡ c → (filter p ys ≡ filter q ys) ⊎ (length (filter p ys) < length (filter q ys))
        → (cond b (y ∷ filter p ys) (filter p ys) ≡ cond c (y ∷ filter q ys) (filter q ys))
        ⊎ (length (cond b (y ∷ filter p ys) (filter p ys)) < length (cond c (y ∷ filter q ys) (filter q ys)))
    go true true e f (inl same) = inl (ap (λ zs. y ∷ zs) same)
    go true true e f (inr less) = inr (omega (arith, less))
    go true false e f rest = absurd (true≢false (sym (h y e) ∙ f))
    go false true e f (inl same) = let long : length (filter p ys) ≡ length (filter q ys) = ap length same in
        inr (omega (arith, long))
    go false true e f (inr less) = inr (omega (arith, less))
    go false false e f rest = rest

-- tests that are passed under the same conditions are equal
pub same_tests : (b c : Bool) → (b ≡ true → c ≡ true) → (c ≡ true → b ≡ true) → b ≡ c
same_tests true c h k = sym (h refl)
same_tests false true h k = k refl
same_tests false false h k = refl
