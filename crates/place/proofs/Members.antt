-- Members of lists.
use Rattle.place.proofs.Common.{AllZip, Bool, Contains, List, Some, [], cond, false, find, here, later, refl, same_Some}
use Rattle.place.proofs.Common.{slice_get, subst, suc, true, zero, ℕ, ◌∷◌, ◌≡◌}

-- what is found is a member that passes
pub find_in : {X : Type 0} (p : X → Bool) (xs : List X) (x : X) → find p xs ≡ Some x → Contains xs x × (p x ≡ true)
find_in p [] x e = absurd (let none : ⊥ = cc in none)
find_in p (y ∷ ys) x e = go (p y) refl e (find_in p ys x)
  where
    go : (b : Bool) → p y ≡ b → cond b (Some y) (find p ys) ≡ Some x
        → (find p ys ≡ Some x → Contains ys x × (p x ≡ true)) → Contains (y ∷ ys) x × (p x ≡ true)
    go true f k rest =
        let is : y ≡ x = same_Some _ _ k in
        (subst (λ z. Contains (y ∷ ys) z) is (here y ys), subst (λ z. p z ≡ true) is f)
    go false f k rest = let r = rest k in (later y ys x r.0, r.1)

-- members of two lists side by side
pub record Beside {A B : Type 0} (R : A → B → Type 0) (ys : List B) (k : ℕ) (x : A) : Type 0 where
  pub member : B
  pub at : slice_get ys k ≡ Some member
  pub is : R x member

pub beside : {A B : Type 0} (R : A → B → Type 0) (xs : List A) (ys : List B) (k : ℕ) (x : A) → AllZip R xs ys
    → slice_get xs k ≡ Some x → Beside R ys k x
beside R [] ys k x h e = absurd (let none : ⊥ = cc in none)
beside R (v ∷ vs) [] k x h e = absurd h
beside R (v ∷ vs) (w ∷ ws) zero x h e =
    record { member = w; at = refl; is = subst (λ z. R z w) (same_Some _ _ e) h.0 }
beside R (v ∷ vs) (w ∷ ws) (suc k) x h e =
    let r = beside R vs ws k x h.1 e in record { member = r.member; at = r.at; is = r.is }
