-- What is reached in a graph, mapped, is what is reached in the mapped graph, where starts and steps turn on what the
-- map keeps of a node.
use Rattle.emit.proofs.Common.{Bool, List, [], ap, cond, false, filter, length, length-map, list_any, map, refl, suc}
use Rattle.emit.proofs.Common.{sym, true, zero, ℕ, ◌||◌, ◌∙◌, ◌∷◌, ◌≡◌}
use Rattle.ldmodel.specs.Reach.{reached, reached_in}

module _ {X Y : Type 0} (f : X → Y) where
  module _ (test : X → Bool) (mapped : Y → Bool) (same : (x : X) → test x ≡ mapped (f x)) where
    pub map-filter : (xs : List X) → map f (filter test xs) ≡ filter mapped (map f xs)
    map-filter [] = refl
    map-filter (x ∷ xs) = go (test x) (mapped (f x)) (same x) (map-filter xs)
      where
        go : (a b : Bool) → a ≡ b → map f (filter test xs) ≡ filter mapped (map f xs)
            → map f (cond a (x ∷ filter test xs) (filter test xs))
            ≡ cond b (f x ∷ filter mapped (map f xs)) (filter mapped (map f xs))
        go true true e rest = ap (λ ys. f x ∷ ys) rest
        go true false e rest = absurd (let none : ⊥ = cc in none)
        go false true e rest = absurd (let none : ⊥ = cc in none)
        go false false e rest = rest

    pub list_any-mapped : (xs : List X) → list_any test xs ≡ list_any mapped (map f xs)
    list_any-mapped [] = refl
    list_any-mapped (x ∷ xs) = λ i. same x i || list_any-mapped xs i

  module _ (is_start : X → Bool) (leads : X → X → Bool) (starts : Y → Bool) (steps : Y → Y → Bool)
      (same_start : (x : X) → is_start x ≡ starts (f x)) (same_step : (x y : X) → leads x y ≡ steps (f x) (f y))
      (nodes : List X) where
    map-reached_in : (n : ℕ) → map f (reached_in n is_start leads nodes) ≡ reached_in n starts steps (map f nodes)
    map-reached_in zero = map-filter is_start starts same_start nodes
    map-reached_in (suc n) =
        map-filter (λ x. is_start x || list_any (λ y. leads y x) (reached_in n is_start leads nodes))
        (λ x. starts x || list_any (λ y. steps y x) (reached_in n starts steps (map f nodes)))
        (λ x. (λ i. same_start x i
        || list_any-mapped (λ y. leads y x) (λ y. steps y (f x)) (λ y. same_step y x)
        (reached_in n is_start leads nodes) i)
        ∙ ap (λ ys. starts (f x) || list_any (λ y. steps y (f x)) ys) (map-reached_in n))
        nodes

    pub map-reached : map f (reached is_start leads nodes) ≡ reached starts steps (map f nodes)
    unfolding reached
    map-reached =
        map-reached_in (length nodes)
        ∙ ap (λ n. reached_in n starts steps (map f nodes)) (sym (length-map nodes f))
