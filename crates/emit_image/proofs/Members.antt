-- Members of two lists that go together.
use Rattle.emit_image.proofs.Common.{AllZip, Bool, Contains, List, Some, [], cond, false, find, here, later, refl}
use Rattle.emit_image.proofs.Common.{subst, true, ◌∷◌, ◌≡◌}

-- two relations between the members of two lists
pub zip_both : {X Y : Type 0} (R S : X → Y → Type 0) (xs : List X) (ys : List Y) → AllZip R xs ys → AllZip S xs ys
    → AllZip (λ x y. R x y × S x y) xs ys
zip_both R S [] [] h k = tt
zip_both R S [] (y ∷ ys) h k = absurd h
zip_both R S (x ∷ xs) [] h k = absurd h
zip_both R S (x ∷ xs) (y ∷ ys) h k = ((h.0, k.0), zip_both R S xs ys h.1 k.1)

-- what goes together with the first member that passes a test
pub record Beside {X Y : Type 0} (R : X → Y → Type 0) (test : Y → Bool) (xs : List X) (y : Y) : Type 0 where
  pub member : X
  pub among : Contains xs member
  pub related : R member y
  pub passes : test y ≡ true

pub beside : {X Y : Type 0} (R : X → Y → Type 0) (test : Y → Bool) (xs : List X) (ys : List Y) → AllZip R xs ys
    → (y : Y) → find test ys ≡ Some y → Beside R test xs y
beside R test [] [] h y e = absurd (let none : ⊥ = cc in none)
beside R test [] (z ∷ zs) h y e = absurd h
beside R test (x ∷ xs) [] h y e = absurd h
beside {X} {Y} R test (x ∷ xs) (z ∷ zs) h y e = go (test z) refl e (beside R test xs zs h.1 y)
  where
    go : (b : Bool) → test z ≡ b → cond b (Some z) (find test zs) ≡ Some y
        → (find test zs ≡ Some y → Beside R test xs y) → Beside R test (x ∷ xs) y
    go true t k rest =
        let is : z ≡ y = cc in
        subst (Beside R test (x ∷ xs)) is (record { member = x; among = here x xs; related = h.0; passes = t })
    go false t k rest =
        let f = rest k in
        record { member = f.member; among = later x xs f.member f.among; related = f.related; passes = f.passes }
