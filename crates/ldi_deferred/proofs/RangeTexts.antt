-- The texts of ranges, one after the other.
use Rattle.ldi_deferred.proofs.Common.{AreWithin, ByteRange, List, [], ap, append_assoc, arith, drop, flat_map, length}
use Rattle.ldi_deferred.proofs.Common.{refl, slice_index_or, suc, sym, take, zero, ℕ, ◌++◌, ◌+◌, ◌<◌, ◌∙◌, ◌∷◌, ◌≡◌}
use Rattle.ldi_deferred.proofs.Common.{◌≤◌}

-- what is written before an element, its own text, and the rest
pub cut_at : {X : Type 0} (f : X → List ℕ) (xs : List X) (i : ℕ) (d : X) → i < length xs
    → flat_map f xs ≡ flat_map f (take i xs) ++ (f (slice_index_or xs i d) ++ flat_map f (drop (suc i) xs))
cut_at f [] i d h = absurd (omega (arith, h))
cut_at f (x ∷ xs) zero d h = refl
cut_at f (x ∷ xs) (suc i) d h =
    ap (λ (rest : List ℕ). f x ++ rest) (cut_at f xs i d (omega (arith, h)))
    ∙ sym (append_assoc (f x) (flat_map f (take i xs)) _)

pub within_at : (most : ℕ) (ranges : List ByteRange) (i : ℕ) (d : ByteRange) → AreWithin most ranges → i < length ranges
    → (slice_index_or ranges i d).offset + (slice_index_or ranges i d).count ≤ most
within_at most [] i d h k = absurd (omega (arith, k))
within_at most (r ∷ rs) zero d h k = h.0
within_at most (r ∷ rs) (suc i) d h k = within_at most rs i d h.1 (omega (arith, k))
