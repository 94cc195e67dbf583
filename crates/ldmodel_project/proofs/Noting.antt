-- A table of places that is filled key by key.
use Rattle.ldmodel_project.proofs.Common.{AreKeysDistinct, Bool, List, MatchOption, None, Option, Some, [], ap, arith}
use Rattle.ldmodel_project.proofs.Common.{cond, count_by, count_by_more_no, eq-eqb, eqb-true, false, get_or, length}
use Rattle.ldmodel_project.proofs.Common.{nat_eq, position, refl, remove, subst, sym, take, take_all, true, ℕ, ◌+◌, ◌<◌}
use Rattle.ldmodel_project.proofs.Common.{◌∙◌, ◌≡◌, ◌≤◌}
use Rattle.std.proofs.lemmas.List.Edits.{get_or-remove_below, length-remove}
use Rattle.ldmodel_project.specs.Order.{HasPlaces, IsNoted}
use Rattle.ldmodel_project.proofs.Counts.{one_if, count_by_at, count_by-remove}
use Rattle.ldmodel_project.proofs.Placed.{not_counted}
use Rattle.ldmodel_project.proofs.Places.{position-some, position-none}

-- the place is one of the first n, where the key stands; or there is none, and the key isn't among those
abbrev pub IsPlaceOf : List ℕ → ℕ → ℕ → Option ℕ → Type 0
IsPlaceOf keys n k place =
    MatchOption place (count_by (nat_eq k) (take n keys) ≡ 0) (λ p. (p < n) × (get_or keys p 0 ≡ k))

-- the table has the places of the first n keys
abbrev pub HasFirst : List ℕ → ℕ → List (Option ℕ) → Type 0
HasFirst keys n places = (k : ℕ) → IsPlaceOf keys n k (get_or places k None)

-- a table of no places
pub first_empty : (keys : List ℕ) (places : List (Option ℕ)) → places ≡ [] → HasFirst keys 0 places
first_empty keys places empty k =
    subst (λ (table : List (Option ℕ)). IsPlaceOf keys 0 k (get_or table k None)) (sym empty) refl

pub first_more : (keys : List ℕ) (n key : ℕ) (old new : List (Option ℕ)) → n < length keys → get_or keys n 0 ≡ key
    → HasFirst keys n old → IsNoted old new key n → HasFirst keys (n + 1) new
first_more keys n key old new within here before noted k =
    at (nat_eq k key) refl (get_or new k None) (get_or old k None) (noted k) (before k)
  where
    at : (b : Bool) → nat_eq k key ≡ b → (x y : Option ℕ) → x ≡ cond b (Some n) y → IsPlaceOf keys n k y
        → IsPlaceOf keys (n + 1) k x
    at true e None y same old = cc
    at true e (Some p) y same old =
        let place : p ≡ n = grind arith in
        (omega arith, ap (λ i. get_or keys i 0) place ∙ (here ∙ sym (eqb-true k key e)))
    at false e None None same old =
        count_by_more_no (nat_eq k) keys n 0 within (ap (nat_eq k) here ∙ e) ∙ old
    at false e None (Some q) same old = cc
    at false e (Some p) None same old = cc
    at false e (Some p) (Some q) same old =
        let place : p ≡ q = grind arith in
        (omega (arith, old.0), ap (λ i. get_or keys i 0) place ∙ old.1)

-- where no key stands twice, no other place has it
pub once : (keys : List ℕ) (k i j : ℕ) → AreKeysDistinct keys → i < j → j < length keys → get_or keys j 0 ≡ k
    → nat_eq k (get_or keys i 0) ≡ false
once keys k i j distinct before within here = at (nat_eq k (get_or keys i 0)) refl
  where
    at : (b : Bool) → nat_eq k (get_or keys i 0) ≡ b → b ≡ false
    at true e =
        let last : one_if (nat_eq k (get_or keys j 0)) ≡ 1 = ap one_if (eq-eqb k (get_or keys j 0) (sym here)) in
        let first : nat_eq k (get_or (remove keys j) i 0) ≡ true =
        ap (nat_eq k) (get_or-remove_below keys j 0 i before within) ∙ e in
        let other : 0 < count_by (nat_eq k) (remove keys j) =
        count_by_at (nat_eq k) (remove keys j) i 0 (omega (arith, length-remove keys j within)) first in
        absurd (omega (arith, count_by-remove (nat_eq k) keys j 0 within, distinct k, other))
    at false e = refl

pub has_places : (keys : List ℕ) (n : ℕ) (places : List (Option ℕ)) → AreKeysDistinct keys → length keys ≤ n
    → n ≤ length keys → HasFirst keys n places → HasPlaces keys places
has_places keys n places distinct all within first k = at (get_or places k None) (first k)
  where
    at : (place : Option ℕ) → IsPlaceOf keys n k place → place ≡ position (nat_eq k) keys
    at None none =
        sym (position-none (nat_eq k) keys 0
        (λ j q. not_counted k keys j (sym (ap (count_by (nat_eq k)) (take_all n keys all)) ∙ none) q))
    at (Some p) found =
        sym (position-some (nat_eq k) keys p 0 (omega (arith, found.0))
        (λ j q. once keys k j p distinct q (omega (arith, found.0)) found.1)
        (eq-eqb k (get_or keys p 0) (sym found.1)))
