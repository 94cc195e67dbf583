-- Names that begin alike.
use Rattle.gather.proofs.Common.{BeginsWith, Equal, List, [], ap, arith, bytes_decides, drop, get_or, get_or-take}
use Rattle.gather.proofs.Common.{length, nat_cmp, nat_eq, ordering_then, refl, slice_cmp, starts_with, suc, sym, take}
use Rattle.gather.proofs.Common.{true, ℕ, ◌++◌, ◌<◌, ◌∙◌, ◌∷◌, ◌≡◌, ◌≤◌}
use Rattle.std.proofs.lemmas.Cmp.{by_ranked, ranked}

-- a name that begins so, in two parts
pub parted : (start name : List ℕ) → BeginsWith start name → start ++ drop (length start) name ≡ name
parted [] name b = refl
parted (x ∷ xs) [] b = absurd (omega (arith, b.within))
parted (x ∷ xs) (y ∷ ys) b =
    let e : y ≡ x = b.is 0 (omega arith) in
    let rest : BeginsWith xs ys = record {
      within = omega (arith, b.within);
      is = λ k l. b.is (suc k) (omega (arith, l));
    } in
    ap (λ z. z ∷ (xs ++ drop (length xs) ys)) (sym e) ∙ ap (λ l. y ∷ l) (parted xs ys rest)

same_number : (x : ℕ) → nat_cmp x x ≡ Equal
same_number x =
    by_ranked (x < x) (x ≡ x) (x < x) (nat_cmp x x) (ranked x x (nat_cmp x x) refl) (λ is h. absurd (omega (arith, h)))
    (λ is h. is) (λ is h. absurd (omega (arith, h)))

-- what stands in front of both does not matter
pub after_start : (start xs ys : List ℕ) → slice_cmp nat_cmp (start ++ xs) (start ++ ys) ≡ slice_cmp nat_cmp xs ys
after_start [] xs ys = refl
after_start (x ∷ start) xs ys =
    ap (λ o. ordering_then o (slice_cmp nat_cmp (start ++ xs) (start ++ ys))) (same_number x) ∙ after_start start xs ys

pub from_test : (start name : List ℕ) → length start ≤ length name → starts_with nat_eq name start ≡ true
    → BeginsWith start name
from_test start name within test =
    let same : start ≡ take (length start) name = (bytes_decides start (take (length start) name)).0 test in
    record {
      within = within;
      is = λ k l. sym (get_or-take (length start) name k 0 l) ∙ ap (λ xs. get_or xs k 0) (sym same);
    }
