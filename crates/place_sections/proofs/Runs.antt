-- Computations in steps, by their first steps.
use Rattle.place_sections.proofs.Common.{Err, Fault, Layout, List, Ok, Result, Some, [], and_then, ap, drop, refl, run}
use Rattle.place_sections.proofs.Common.{slice_get, suc, sym, take, take-append-drop, zero, ℕ, ◌++◌, ◌∙◌, ◌∷◌, ◌≡◌}
use Rattle.place_sections.proofs.Ending.{Chained, chained}
use Rattle.place_terms.proofs.TakenOver.{take_one}

pub drop_at : {X : Type 0} (xs : List X) (k : ℕ) (x : X) → slice_get xs k ≡ Some x → drop k xs ≡ x ∷ drop (suc k) xs
drop_at [] k x e = absurd (let no : ⊥ = cc in no)
drop_at (y ∷ ys) zero x e = let same : y ≡ x = cc in ap (λ z. z ∷ ys) same
drop_at (y ∷ ys) (suc k) x e = drop_at ys k x e

module _ {X : Type 0} (step : Layout → X → Result Layout Fault) where
  pub run_append : (xs ys : List X) (s : Layout) → run step s (xs ++ ys) ≡ and_then (run step s xs) (λ t. run step t ys)
  unfolding run
  run_append [] ys s = refl
  run_append (x ∷ xs) ys s = go (step s x) (run_append xs ys)
    where
      go : (r : Result Layout Fault)
          → ((t : Layout) → run step t (xs ++ ys) ≡ and_then (run step t xs) (λ u. run step u ys))
          → and_then r (λ t. run step t (xs ++ ys))
          ≡ and_then (and_then r (λ t. run step t xs)) (λ u. run step u ys)
      go (Ok t) later = later t
      go (Err f) later = refl

  pub run_first : (x : X) (xs : List X) (s : Layout) → run step s (x ∷ xs) ≡ and_then (step s x) (λ t. run step t xs)
  unfolding run
  run_first x xs s = refl

  pub run_none : (s : Layout) → run step s [] ≡ Ok s
  unfolding run
  run_none s = refl

  -- the run goes on from what its first steps come to
  from_first : (xs : List X) (k : ℕ) (s t : Layout) → run step s (take k xs) ≡ Ok t
      → run step s xs ≡ run step t (drop k xs)
  from_first xs k s t e =
      ap (run step s) (sym (take-append-drop k xs))
      ∙ (run_append (take k xs) (drop k xs) s ∙ ap (λ r. and_then r (λ u. run step u (drop k xs))) e)

  -- one step more
  pub run_more : (xs : List X) (k : ℕ) (x : X) (s t u : Layout) → run step s (take k xs) ≡ Ok t
      → slice_get xs k ≡ Some x → step t x ≡ Ok u → run step s (take (suc k) xs) ≡ Ok u
  run_more xs k x s t u e there f =
      ap (run step s) (take_one xs k x there)
      ∙ (run_append (take k xs) (x ∷ []) s
      ∙ (ap (λ r. and_then r (λ v. run step v (x ∷ []))) e
      ∙ (run_first x [] t ∙ (ap (λ r. and_then r (λ v. run step v [])) f ∙ run_none u))))

  -- a step that stops
  pub run_stops : (xs : List X) (k : ℕ) (x : X) (s t : Layout) (f : Fault) → run step s (take k xs) ≡ Ok t
      → slice_get xs k ≡ Some x → step t x ≡ Err f → run step s xs ≡ Err f
  run_stops xs k x s t f e there stops =
      from_first xs k s t e
      ∙ (ap (run step t) (drop_at xs k x there)
      ∙ (run_first x (drop (suc k) xs) t ∙ ap (λ r. and_then r (λ v. run step v (drop (suc k) xs))) stops))

  -- a run that ends well, in two parts
  pub run_parted : (xs : List X) (k : ℕ) (s t : Layout) → run step s xs ≡ Ok t
      → Chained (run step s (take k xs)) (λ u. run step u (drop k xs)) t
  run_parted xs k s t e =
      chained (run step s (take k xs)) (λ u. run step u (drop k xs)) t
      (sym (run_append (take k xs) (drop k xs) s) ∙ (ap (run step s) (take-append-drop k xs) ∙ e))

  -- what is left after the first steps
  pub run_rest : (xs : List X) (k : ℕ) (s t u : Layout) → run step s (take k xs) ≡ Ok t → run step s xs ≡ Ok u
      → run step t (drop k xs) ≡ Ok u
  run_rest xs k s t u e f = sym (from_first xs k s t e) ∙ f
