-- Ranges of which no two share an address do not overlap.
use Rattle.place_sections.proofs.Common.{Extent, List, None, Option, Some, Space, [], and_parts, ap, append_assoc}
use Rattle.place_sections.proofs.Common.{arith, cases_lt, cover, covers, fault_with, first_overlap, get_or}
use Rattle.place_sections.proofs.Common.{get_or-le-sum_by, if◌then◌else◌, inl, inr, le-leb, length, lt-ltb, ltb-true}
use Rattle.place_sections.proofs.Common.{nat_lt, not, overlap, overlaps_after, overlaps_before, refl, subst, suc}
use Rattle.place_sections.proofs.Common.{sum_by-append, sum_by-cons, sym, true, zero, ℕ, ◌&&◌, ◌++◌, ◌+◌, ◌<◌, ◌==◌}
use Rattle.place_sections.proofs.Common.{◌∙◌, ◌∷◌, ◌≡◌, ◌≤◌}
use Rattle.std.proofs.lemmas.List.Sorted.{sum_by-IsPermutation}
use Rattle.std.proofs.lemmas.List.Quantifiers.{position-Some}
use Rattle.std.specs.List.Sorted.{IsPermutation}

-- an address that two ranges share
pub record Shared (a b : Extent) : Type 0 where
  pub address : ℕ
  pub of_first : covers address a ≡ 1
  pub of_second : covers address b ≡ 1

covers_within : (address : ℕ) (e : Extent) → e.start ≤ address → address < e.start + e.size → covers address e ≡ 1
covers_within address e from within =
    ap (λ b. if b && nat_lt address (e.start + e.size) then 1 else 0) (le-leb e.start address from)
    ∙ ap (λ b. if b then 1 else 0) (lt-ltb address (e.start + e.size) within)

pub no_zero : (n : ℕ) → not (n == 0) ≡ true → 0 < n
no_zero zero h = absurd (cc h)
no_zero (suc n) h = omega arith

overlaps_share : (a b : Extent) → overlap a b ≡ true → Shared a b
overlaps_share a b met =
    let one_end = and_parts (not (a.size == 0) && not (b.size == 0) && nat_lt a.start (b.start + b.size))
    (nat_lt b.start (a.start + a.size)) met in
    let other_end = and_parts (not (a.size == 0) && not (b.size == 0)) (nat_lt a.start (b.start + b.size)) one_end.0 in
    let sized = and_parts (not (a.size == 0)) (not (b.size == 0)) other_end.0 in
    let n : 0 < a.size = no_zero a.size sized.0 in
    let m : 0 < b.size = no_zero b.size sized.1 in
    let one : a.start < b.start + b.size = ltb-true a.start (b.start + b.size) other_end.1 in
    let other : b.start < a.start + a.size = ltb-true b.start (a.start + a.size) one_end.1 in
    elim (cases_lt a.start b.start) [
      | inl first ↦ record {
        address = b.start;
        of_first = covers_within b.start a (omega (arith, first)) other;
        of_second = covers_within b.start b (omega arith) (omega (arith, m));
      }
      | inr second ↦ record {
        address = a.start;
        of_first = covers_within a.start a (omega arith) (omega (arith, n));
        of_second = covers_within a.start b second one;
      }
    ]

-- where no address is in two, the next one overlaps none before it
overlaps_none : (earlier rest : List Extent) (e : Extent) → ((address : ℕ) → cover address (earlier ++ e ∷ rest) ≤ 1)
    → first_overlap earlier e ≡ None
overlaps_none earlier rest e apart = by_case (first_overlap earlier e) refl where
  by_case : (o : Option ℕ) → first_overlap earlier e ≡ o → o ≡ None
  by_case None is = refl
  by_case (Some i) is =
      let found = position-Some (overlap e) earlier i e is in
      let shared : Shared e (get_or earlier i e) = overlaps_share e (get_or earlier i e) found.1 in
      let a : ℕ = shared.address in
      absurd (omega (
        arith,
        apart a,
        shared.of_first,
        shared.of_second,
        sum_by-append (covers a) earlier (e ∷ rest),
        sum_by-cons (covers a) e rest,
        get_or-le-sum_by (covers a) earlier i e found.0,
      ))

pub apart_are : (space : Space) (earlier rest : List Extent) → ((address : ℕ) → cover address (earlier ++ rest) ≤ 1)
    → overlaps_after space earlier rest ≡ []
unfolding overlaps_after
apart_are space earlier [] apart = refl
apart_are space earlier (e ∷ es) apart =
    ap (λ m. fault_with space (length earlier) m ++ overlaps_after space (earlier ++ e ∷ []) es)
    (overlaps_none earlier es e apart)
    ∙ apart_are space (earlier ++ e ∷ []) es
    (λ a. subst (λ l. cover a l ≤ 1) (sym (append_assoc earlier (e ∷ []) es)) (apart a))

-- in whatever order they are counted
pub apart_in_order : (space : Space) (extents ordered : List Extent) → IsPermutation extents ordered
    → ((address : ℕ) → cover address ordered ≤ 1) → overlaps_before space extents ≡ []
apart_in_order space extents ordered moved apart =
    apart_are space [] extents
    (λ a. subst (λ n. n ≤ 1) (sum_by-IsPermutation (covers a) extents ordered moved) (apart a))
