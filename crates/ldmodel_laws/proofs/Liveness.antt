-- Live sections.
use Rattle.ldmodel_laws.proofs.Common.{Bool, Contains, InputSection, List, Path, Project, [], ap, candidates, cond}
use Rattle.ldmodel_laws.proofs.Common.{false, filter, live, reached, refl, subst, sym, true, ◌↔◌, ◌∷◌, ◌≡◌}
use Rattle.ldmodel.specs.Live.{is_root, refers_to}
use Rattle.ldmodel_laws.proofs.Reaching.{reached_by_path, reached_in_order}

collected_is : (p : Project) → p.options.gc ≡ true → live p ≡ reached (is_root p) (refers_to p) (candidates p)
unfolding live
collected_is p gc = ap (λ b. cond b (reached (is_root p) (refers_to p) (candidates p)) (candidates p)) gc

pub all_are : (p : Project) → p.options.gc ≡ false → live p ≡ candidates p
unfolding live
all_are p gc = ap (λ b. cond b (reached (is_root p) (refers_to p) (candidates p)) (candidates p)) gc

pub collected : (p : Project) (s : InputSection) → p.options.gc ≡ true
    → Contains (live p) s ↔ Path (is_root p) (refers_to p) (candidates p) s
collected p s gc = subst (λ l. Contains l s ↔ Path (is_root p) (refers_to p) (candidates p) s)
    (sym (collected_is p gc)) (reached_by_path (is_root p) (refers_to p) (candidates p) s)

filter_all : {X : Type 0} (xs : List X) → xs ≡ filter (λ x. true) xs
filter_all [] = refl
filter_all (x ∷ xs) = ap (λ ys. x ∷ ys) (filter_all xs)

abbrev InOrder : Project → List InputSection → Type 0
InOrder p l = (test : InputSection → Bool) × (l ≡ filter test (candidates p))

pub in_order : (p : Project) → InOrder p (live p)
in_order p = go p.options.gc refl
  where
    go : (gc : Bool) → p.options.gc ≡ gc → InOrder p (live p)
    go true gc = subst (InOrder p) (sym (collected_is p gc)) (reached_in_order (is_root p) (refers_to p) (candidates p))
    go false gc = subst (InOrder p) (sym (all_are p gc)) (λ x. true, filter_all (candidates p))
