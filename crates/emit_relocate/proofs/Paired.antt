-- Lists of sites and of a patch of each.
use Rattle.emit_relocate.proofs.Common.{AllZip, Contains, List, Option, Some, [], cons_option, filter_map, here, later}
use Rattle.emit_relocate.proofs.Common.{subst, sym, ◌++◌, ◌∷◌, ◌≡◌}

pub zip_append : {X Y : Type 0} (R : X → Y → Type 0) (a b : List X) (c d : List Y) → AllZip R a c → AllZip R b d
    → AllZip R (a ++ b) (c ++ d)
zip_append R [] b [] d h k = k
zip_append R [] b (y ∷ c) d h k = absurd h
zip_append R (x ∷ a) b [] d h k = absurd h
zip_append R (x ∷ a) b (y ∷ c) d h k = (h.0, zip_append R a b c d h.1 k)

-- a member gives something that is related to it
pub record Gives {X Y : Type 0} (R : X → Y → Type 0) (f : X → Option Y) (x : X) : Type 0 where
  pub given : Y
  pub is : f x ≡ Some given
  pub related : R x given

pub all_given : {X Y : Type 0} (R : X → Y → Type 0) (f : X → Option Y) (xs : List X)
    → ((x : X) → Contains xs x → Gives R f x) → AllZip R xs (filter_map f xs)
all_given R f [] h = tt
all_given R f (x ∷ xs) h =
    let own = h x (here x xs) in
    subst (λ m. AllZip R (x ∷ xs) (cons_option m (filter_map f xs))) (sym own.is)
    (own.related, all_given R f xs (λ z c. h z (later x xs z c)))
