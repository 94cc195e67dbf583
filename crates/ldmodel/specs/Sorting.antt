-- Lists in the order of a key (the words of rows, program headers and names in byte order; this project's own). Members
-- with equal keys stay in the order that they had: what a stable sort is.
use Rattle.std.specs.Prelude.{Bool, List, [], ◌∷◌, if◌then◌else◌}
use Rattle.std.specs.List.Sorted.{IsSortedBy, IsStableBy}

-- before the first member that isn't below it
abbrev pub insert_by : {X : Type 0} → (below : X → X → Bool) → X → List X → List X
insert_by below x [] = x ∷ []
insert_by below x (y ∷ ys) = if below y x then y ∷ insert_by below x ys else x ∷ y ∷ ys

unfoldable pub sort_by : {X : Type 0} → (below : X → X → Bool) → List X → List X
sort_by below [] = []
sort_by below (x ∷ xs) = insert_by below x (sort_by below xs)

-- ys has the members of xs: no member is below the one before it, and those with equal keys stand as they did. That the
-- members are the same follows from the latter, since a member has the key of itself
pub record IsOrdered {X : Type 0} (below : X → X → Bool) (xs ys : List X) : Type 0 where
  pub sorted : IsSortedBy below ys
  pub stable : IsStableBy below xs ys
