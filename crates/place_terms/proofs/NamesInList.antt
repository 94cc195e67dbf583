-- Names in a list of names.
use Rattle.place_terms.proofs.Common.{List, Some, [], ap, arith, bytes_eq, bytes_eq-Decides, cases_lt, false, get_or}
use Rattle.place_terms.proofs.Common.{inl, inr, length, length-map, option_map, shown_names, slice_get, slice_get-map}
use Rattle.place_terms.proofs.Common.{sym, true, ℕ, ◌+◌, ◌<◌, ◌∙◌, ◌≡◌, ◌≤◌}
use Rattle.std.specs.Borrow.{Bor}
use Rattle.std.proofs.lemmas.Option.{get_or_from_slice_get, slice_get-get_or, slice_get_within}

-- no name before number n is this one
abbrev pub NoneBefore : List (Bor (List ℕ)) → List ℕ → ℕ → Type 0
NoneBefore names name n = (j : ℕ) → j < n → slice_get (shown_names names) j ≡ Some name → ⊥

shown_at : (names : List (Bor (List ℕ))) (k : ℕ) (d : Bor (List ℕ)) → k < length names
    → slice_get (shown_names names) k ≡ Some ((get_or names k d).now)
shown_at names k d below =
    slice_get-map (λ (n : Bor (List ℕ)). n.now) names k
    ∙ ap (option_map (λ (n : Bor (List ℕ)). n.now)) (slice_get-get_or names k d below)

pub found_at : (names : List (Bor (List ℕ))) (k : ℕ) (d : Bor (List ℕ)) (name : List ℕ) → k < length names
    → bytes_eq ((get_or names k d).now) name ≡ true → slice_get (shown_names names) k ≡ Some name
found_at names k d name below same =
    shown_at names k d below ∙ ap (λ (n : List ℕ). Some n) ((bytes_eq-Decides ((get_or names k d).now) name).0 same)

pub none_more : (names : List (Bor (List ℕ))) (k : ℕ) (d : Bor (List ℕ)) (name : List ℕ) → k < length names
    → bytes_eq ((get_or names k d).now) name ≡ false → NoneBefore names name k → NoneBefore names name (k + 1)
none_more names k d name below other before j past here = elim (cases_lt j k) [
  | inl earlier ↦ before j earlier here
  | inr late ↦
      let at : j ≡ k = omega (arith, past, late) in
      let met : slice_get (shown_names names) k ≡ Some name = ap (λ i. slice_get (shown_names names) i) (sym at)
      ∙ here in
      let same : (get_or names k d).now ≡ name =
      sym (get_or_from_slice_get (shown_names names) k ((get_or names k d).now) [] (shown_at names k d below))
      ∙ get_or_from_slice_get (shown_names names) k name [] met in
      let clash : true ≡ false = sym ((bytes_eq-Decides ((get_or names k d).now) name).1 same) ∙ other in cc
]

-- one stands at or past a number that none stands before
pub stands_past : (names : List (Bor (List ℕ))) (name : List ℕ) (n j : ℕ) → NoneBefore names name n
    → slice_get (shown_names names) j ≡ Some name → n ≤ j
stands_past names name n j before here =
    elim (cases_lt j n) [ inl earlier ↦ absurd (before j earlier here) | inr there ↦ there ]

-- where none stands before the end, none stands at all
pub stands_nowhere : (names : List (Bor (List ℕ))) (name : List ℕ) (n j bound : ℕ) → NoneBefore names name n
    → length names ≤ n → slice_get (shown_names names) j ≡ Some name → bound ≤ j
stands_nowhere names name n j bound before all here =
    let within : j < length (shown_names names) = slice_get_within (shown_names names) j name here in
    absurd (before j (omega (arith, length-map names (λ (n : Bor (List ℕ)). n.now), within, all)) here)
