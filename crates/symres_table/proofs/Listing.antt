-- The list of known names.
use Rattle.symres_table.proofs.Common.{AllByRecursion, IsConsistent, IsDistinct, IsListing, KnownNames, List, Vec, []}
use Rattle.symres_table.proofs.Common.{bytes_eq, entry_spelled, false, map, ℕ, ◌∷◌, ◌≡◌}
use Rattle.std.proofs.Common.{Global}

abbrev Name : Type 0
Name = Vec ℕ Global

others_mapped : (x : Name × ℕ) (es : List (Name × ℕ))
    → AllByRecursion (λ (y : Name). bytes_eq x.0.items y.items ≡ false) (map (λ (e : Name × ℕ). e.0) es)
    → AllByRecursion (λ (y : List ℕ × ℕ). bytes_eq (entry_spelled x).0 y.0 ≡ false) (map entry_spelled es)
others_mapped x [] a = a
others_mapped x (e ∷ es) a = (a.0, others_mapped x es a.1)

pub once_mapped : (es : List (Name × ℕ))
    → IsDistinct (λ (x y : Name). bytes_eq x.items y.items) (map (λ (e : Name × ℕ). e.0) es)
    → IsDistinct (λ (x y : List ℕ × ℕ). bytes_eq x.0 y.0) (map entry_spelled es)
unfolding IsDistinct
once_mapped [] d = d
once_mapped (e ∷ es) d = (others_mapped e es d.0, once_mapped es d.1)

pub listing : (k : KnownNames) → IsConsistent k → IsDistinct (λ (x y : List ℕ × ℕ). bytes_eq x.0 y.0) k.order
    → IsListing k.slots k.order
listing k c d = record { sound = c.sound; complete = c.complete; once = d }
