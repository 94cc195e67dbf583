-- A computation in steps gives what the equations between neighbours say, and the other way round.
use Rattle.ldmodel_laws.proofs.Common.{Err, Fault, List, Ok, Result, [], and_then, refl, run, ◌∷◌, ◌≡◌}
use Rattle.ldmodel_laws.specs.Placed.{Leads, ended, next, Fails, here, later}

-- what a step gives is what is said of it
pub record IsStep {S X : Type 0} (step : S → X → Result S Fault) (To : S → X → S → Type 0) (At : S → X → Fault → Type 0)
    : Type 0 where
  pub to : (s : S) (x : X) (t : S) → step s x ≡ Ok t → To s x t
  pub of : (s : S) (x : X) (t : S) → To s x t → step s x ≡ Ok t
  pub at : (s : S) (x : X) (f : Fault) → step s x ≡ Err f → At s x f
  pub from : (s : S) (x : X) (f : Fault) → At s x f → step s x ≡ Err f

module _ {S X : Type 0} (step : S → X → Result S Fault) (To : S → X → S → Type 0) (At : S → X → Fault → Type 0)
    (is : IsStep step To At) where
  pub run_of : (s t : S) (xs : List X) → Leads To s xs t → run step s xs ≡ Ok t
  unfolding run
  run_of s t [] ended = refl
  run_of s t (x ∷ xs) (next {t = u} e r) = rw (is.of s x u e) (run_of u t xs r)

  pub stop_of : (s : S) (f : Fault) (xs : List X) → Fails To At s xs f → run step s xs ≡ Err f
  unfolding run
  stop_of s f [] x' = elim x' [ ]
  stop_of s f (x ∷ xs) (here e) = rw (is.from s x f e) refl
  stop_of s f (x ∷ xs) (later {t = u} e r) = rw (is.of s x u e) (stop_of u f xs r)

  pub runs_of : (xs : List X) (s t : S) → run step s xs ≡ Ok t → Leads To s xs t
  unfolding run
  runs_of [] s t e = let same : s ≡ t = cc in rw same ended
  runs_of (x ∷ xs) s t e = go (step s x) refl e (λ u. runs_of xs u t)
    where
      go : (r : Result S Fault) → step s x ≡ r → and_then r (λ u. run step u xs) ≡ Ok t
          → ((u : S) → run step u xs ≡ Ok t → Leads To u xs t) → Leads To s (x ∷ xs) t
      go (Ok u) d k more = next (is.to s x u d) (more u k)
      go (Err f) d k more = absurd (let no : ⊥ = cc in no)

  pub stops_of : (xs : List X) (s : S) (f : Fault) → run step s xs ≡ Err f → Fails To At s xs f
  unfolding run
  stops_of [] s f e = absurd (let no : ⊥ = cc in no)
  stops_of (x ∷ xs) s f e = go (step s x) refl e (λ u. stops_of xs u f)
    where
      go : (r : Result S Fault) → step s x ≡ r → and_then r (λ u. run step u xs) ≡ Err f
          → ((u : S) → run step u xs ≡ Err f → Fails To At u xs f) → Fails To At s (x ∷ xs) f
      go (Ok u) d k more = later (is.to s x u d) (more u k)
      go (Err g) d k more = let same : f ≡ g = cc in here (rw same (is.at s x g d))
