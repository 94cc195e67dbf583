-- The list of known names.
use Rattle.symres_decisions.proofs.Common.{Contains-from_lookup, HasName, IsListing, IsNamed, IsSome, List, MatchOption}
use Rattle.symres_decisions.proofs.Common.{None, Option, Some, ap, bytes_eq, bytes_eq-Decides, get_or, get_or_default}
use Rattle.symres_decisions.proofs.Common.{length, refl, subst, true, ℕ, ◌<◌, ◌∙◌, ◌≡◌}

abbrev pub Listed : Type 0
Listed = List ℕ × ℕ

same_bytes : (x y : List ℕ) → bytes_eq x y ≡ true → x ≡ y
same_bytes x y = (bytes_eq-Decides x y).0

-- a key that has a name stands in the list
pub record StandsIn (order : List Listed) (k : ℕ) : Type 0 where
  pub at : ℕ
  pub within : at < length order
  pub is : (e : Listed) → (get_or order at e).1 ≡ k

pub stands_in : (names : List (Option (List ℕ))) (order : List Listed) (k : ℕ) → IsListing names order
    → HasName names k → StandsIn order k
stands_in names order k l h =
    let found = Contains-from_lookup {eq = bytes_eq} same_bytes h.0 k order (l.complete k h.0 h.1) in
    record {
      at = found.0;
      within = found.1;
      is = λ e. ap (λ (x : Listed). x.1) (get_or_default order found.0 e (h.0, k) found.1 ∙ found.2);
    }

-- a key that stands in the list has a name
pub named_listed : (names : List (Option (List ℕ))) (order : List Listed) (i k : ℕ) (e : Listed)
    → IsListing names order → i < length order → (get_or order i e).1 ≡ k → HasName names k
named_listed names order i k e l h is = (
  (get_or order i e).0,
  subst (λ (n : ℕ). IsNamed names n (get_or order i e).0) is (l.sound i e h),
)

-- what is found for a key that has a name
pub some_name : (names : List (Option (List ℕ))) (k : ℕ) {X : Type 0} (f : X → List ℕ) (o : Option X)
    → MatchOption o ((name : List ℕ) → IsNamed names k name → ⊥) (λ x. IsNamed names k (f x)) → HasName names k
    → IsSome o
some_name names k f None h named = absurd (h named.0 named.1)
some_name names k f (Some x) h named = refl
