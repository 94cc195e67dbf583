-- Names of objects are not empty.
use Rattle.ldmodel_project.proofs.Common.{AreObjectsNamed, Bool, InputObject, List, [], arith, false, leb-true, length}
use Rattle.ldmodel_project.proofs.Common.{list_all, nat_le, not, refl, shown_inputs, true, ℕ, ◌&&◌, ◌<◌, ◌||◌, ◌∷◌, ◌≡◌}
use Rattle.elfobj.specs.Names.{is_graphic}
use Rattle.ldmodel.specs.Edits.{is_object_name}

-- those of a view
pub all_named : (inputs : List InputObject) → AreObjectsNamed (shown_inputs inputs)
all_named [] = tt
all_named (x ∷ xs) = (x.named, all_named xs)

first_of : (a b c : Bool) → (a && b && c) ≡ true → a ≡ true
first_of true b c e = refl
first_of false b c e = cc

-- a name that is not over the limits
pub within_limit : (a b c : Bool) → (not a || b || c) ≡ false → a ≡ true
within_limit true b c e = refl
within_limit false b c e = cc

-- a name that may be that of an object
pub has_bytes : (name : List ℕ) → is_object_name name ≡ true → 0 < length name
unfolding is_object_name
has_bytes name e =
    let some = leb-true 1 (length name)
    (first_of (nat_le 1 (length name)) (nat_le (length name) 255) (list_all is_graphic name) e) in
    omega (arith, some)
