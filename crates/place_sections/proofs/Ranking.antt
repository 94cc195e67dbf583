-- The first range that each overlaps, over ranges in some order.
use Rattle.place_sections.proofs.Common.{Contains, Extent, List, Marked, MarkedAt, Missed, None, Numbered, Option, ap}
use Rattle.place_sections.proofs.Common.{arith, cases_eq, cases_lt, first_overlap, get_or, get_or-set_other}
use Rattle.place_sections.proofs.Common.{get_or-set_same, get_or_default, inl, inr, length, length-map, length-take-le}
use Rattle.place_sections.proofs.Common.{map, overlap, set, subst, sym, take, take_more, ℕ, ◌+◌, ◌<◌, ◌∙◌, ◌≡◌, ◌≤◌}
use Rattle.std.specs.List.Sorted.{IsPermutation}
use Rattle.std.proofs.lemmas.List.{get_or-map}
use Rattle.std.proofs.lemmas.List.Elements.{Contains-get_or}
use Rattle.std.proofs.lemmas.List.Sorted.{Contains-permutation, IsPermutation-sym, length_permutation}
use Rattle.place_sections.specs.Firsts.{AreFirst, AreNumbered, IsOf, IsRanking, Ranks, extent_of}
use Rattle.place_sections.proofs.FirstPassing.{position_push, under_first}

-- one range more
pub first_more : (extents in_order : List Extent) (old new : List (Option ℕ)) (k : ℕ) (d : Extent)
    → k < length extents → length new ≡ length old → AreFirst (take k extents) in_order old
    → Marked in_order (get_or extents k d) k old new → Missed in_order (get_or extents k d) 1 new
    → AreFirst (take (k + 1) extents) in_order new
first_more extents in_order old new k d below lengths first marked missed = record {
  count = lengths ∙ first.count;
  each = each;
} where
  e : Extent
  e = get_or extents k d

  each : (j : ℕ) (x : Extent) → j < length in_order
      → get_or new j None ≡ first_overlap (take (k + 1) extents) (get_or in_order j x)
  each j x within =
      let q : Extent = get_or in_order j x in
      let here : length (take k extents) ≡ k = length-take-le k extents (omega (arith, below)) in
      position_push (overlap q) (take k extents) (get_or extents k d) (get_or old j None) (get_or new j None)
      (first.each j x within)
      (subst (λ n. MarkedAt (overlap q (get_or extents k d)) n (get_or old j None) (get_or new j None)) (sym here)
      (marked j x within))
      (missed j x within (under_first (length in_order + j) (omega (arith, within))))
      ∙ ap (λ l. first_overlap l q) (sym (take_more extents k d below))

nowhere : Numbered
nowhere = record { extent = record { start = 0; size = 0 }; number = 0 }

-- numbers stay with their ranges
pub ranking_is : (extents : List Extent) (numbered ranking : List Numbered) → AreNumbered extents numbered
    → IsPermutation numbered ranking → IsRanking extents ranking
ranking_is extents numbered ranking numbers moved = record {
  count = length_permutation numbered ranking moved ∙ numbers.count;
  each = each;
  all = all;
} where
  each : (j : ℕ) (d : Numbered) → j < length ranking → IsOf extents (get_or ranking j d)
  each j d within =
      let x : Numbered = get_or ranking j d in
      let from : Contains numbered x =
      Contains-permutation ranking numbered x (IsPermutation-sym numbered ranking moved)
      (Contains-get_or ranking j d within) in
      let below : from.0 < length extents = omega (arith, from.1, numbers.count) in
      let is : (e : Extent) → x ≡ record { extent = get_or extents from.0 e; number = from.0 } =
      λ e. sym from.2 ∙ numbers.each from.0 x e below in
      let number_is : x.number ≡ from.0 = ap (λ (r : Numbered). r.number) (is x.extent) in
      record {
        within = omega (arith, number_is, below);
        extent = λ e.
            ap (λ (r : Numbered). r.extent) (is e) ∙ ap (λ n. get_or extents n e) (sym number_is);
      }

  all : (k : ℕ) → k < length extents → Ranks ranking k
  all k within =
      let x : Numbered = get_or numbered k nowhere in
      let to : Contains ranking x =
      Contains-permutation numbered ranking x moved
      (Contains-get_or numbered k nowhere (omega (arith, within, numbers.count))) in
      record {
        rank = to.0;
        within = to.1;
        is = λ d.
            ap (λ (r : Numbered). r.number) (get_or_default ranking to.0 d x to.1 ∙ to.2)
            ∙ ap (λ (r : Numbered). r.number) (numbers.each k nowhere (record { start = 0; size = 0 }) within);
      }

-- one number more
pub each_more : (extents : List Extent) (ranking : List Numbered) (marks firsts : List (Option ℕ)) (j : ℕ)
    (z : Numbered) → IsRanking extents ranking → AreFirst extents (map extent_of ranking) marks
    → length firsts ≡ length extents → j < length ranking
    → ((i : ℕ) (r : Numbered) (d : Extent) → i < j
    → get_or firsts (get_or ranking i r).number None
    ≡ first_overlap extents (get_or extents (get_or ranking i r).number d))
    → (i : ℕ) (r : Numbered) (d : Extent) → i < j + 1
    → get_or (set firsts (get_or ranking j z).number (get_or marks j None)) (get_or ranking i r).number None
    ≡ first_overlap extents (get_or extents (get_or ranking i r).number d)
each_more extents ranking marks firsts j z ranks first count below each i r d so_far =
    let n : ℕ = (get_or ranking j z).number in
    let m : ℕ = (get_or ranking i r).number in
    let mark : Option ℕ = get_or marks j None in
    let of : IsOf extents (get_or ranking j z) = ranks.each j z below in
    elim (cases_eq m n) [
      | inl is ↦
          ap (λ k. get_or (set firsts n mark) k None) is
          ∙ get_or-set_same firsts n mark None (omega (arith, of.within, count))
          ∙ first.each j d (omega (arith, below, length-map ranking extent_of))
          ∙ ap (first_overlap extents) (get_or-map extent_of ranking j z d below ∙ of.extent d)
          ∙ ap (λ k. first_overlap extents (get_or extents k d)) (sym is)
      | inr other ↦
          get_or-set_other firsts n m mark None other
          ∙ elim (cases_lt i j) [
            | inl earlier ↦ each i r d earlier
            | inr last ↦
                let same_place : i ≡ j = omega (arith, last, so_far) in
                absurd (other (ap (λ k. (get_or ranking k r).number) same_place
                ∙ ap (λ (q : Numbered). q.number) (get_or_default ranking j r z below)))
          ]
    ]

pub each_number : (extents : List Extent) (ranking : List Numbered) (firsts : List (Option ℕ)) (n : ℕ)
    → IsRanking extents ranking → length firsts ≡ length extents → length ranking ≤ n
    → ((i : ℕ) (r : Numbered) (d : Extent) → i < n
    → get_or firsts (get_or ranking i r).number None
    ≡ first_overlap extents (get_or extents (get_or ranking i r).number d))
    → AreFirst extents extents firsts
each_number extents ranking firsts n ranks count past each = record {
  count = count;
  each = λ j d within.
      let at : Ranks ranking j = ranks.all j within in
      subst (λ k. get_or firsts k None ≡ first_overlap extents (get_or extents k d)) (at.is nowhere)
      (each at.rank nowhere d (omega (arith, at.within, past)));
}
