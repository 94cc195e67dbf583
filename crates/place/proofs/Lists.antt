-- Lists whose members differ from one another, and what is found in them.
use Rattle.place.proofs.Common.{Bool, Each, EachLater, List, None, Some, [], ap, cond, false, find, refl, same_Some}
use Rattle.place.proofs.Common.{slice_get, subst, suc, true, zero, ℕ, ◌∙◌, ◌∷◌, ◌≡◌}

pub each_at : {X : Type 0} (P : X → Type 0) (xs : List X) (k : ℕ) (x : X) → Each P xs → slice_get xs k ≡ Some x → P x
each_at P [] k x h e = absurd (let none : ⊥ = cc in none)
each_at P (y ∷ ys) zero x h e = subst P (same_Some _ _ e) h.0
each_at P (y ∷ ys) (suc k) x h e = each_at P ys k x h.1 e

-- a search for a member, by a test that no two pass, finds it
pub find_at : {X : Type 0} (test : X → X → Bool) → ((x : X) → test x x ≡ true) → (xs : List X)
    → EachLater (λ x y. test x y ≡ false) xs → (k : ℕ) (x : X) → slice_get xs k ≡ Some x
    → find (λ y. test y x) xs ≡ Some x
find_at test same [] h k x e = absurd (let none : ⊥ = cc in none)
find_at test same (y ∷ ys) h zero x e =
    let is : y ≡ x = same_Some _ _ e in
    ap (λ b. cond b (Some y) (find (λ z. test z x) ys)) (ap (λ z. test z x) is ∙ same x) ∙ ap Some is
find_at test same (y ∷ ys) h (suc k) x e =
    ap (λ b. cond b (Some y) (find (λ z. test z x) ys)) (each_at (λ z. test y z ≡ false) ys k x h.0 e)
    ∙ find_at test same ys h.1 k x e

-- nothing is found where no member passes
pub find_none : {X : Type 0} (test : X → Bool) (xs : List X) → Each (λ x. test x ≡ false) xs → find test xs ≡ None
find_none test [] h = refl
find_none test (x ∷ xs) h = ap (λ b. cond b (Some x) (find test xs)) h.0 ∙ find_none test xs h.1
