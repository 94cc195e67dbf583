-- What can be reached from the starts of a graph (the words of `Live`; this project's own). A node can be reached
-- where a path leads to it from a start, by as many steps as the path has; no path needs more than there are nodes.
use Rattle.std.specs.Prelude.{ℕ, zero, suc, List, length, filter, Contains, Bool, ◌||◌, IsTrue}
use Rattle.std.specs.List.{list_any}

-- the nodes that a path of at most n steps leads to, in the order of the list of all nodes
abbrev pub reached_in : {X : Type 0} → ℕ → (is_start : X → Bool) → (leads : X → X → Bool) → List X → List X
reached_in zero is_start leads nodes = filter is_start nodes
reached_in (suc n) is_start leads nodes =
    filter (λ x. is_start x || list_any (λ y. leads y x) (reached_in n is_start leads nodes)) nodes

-- the nodes that can be reached: by at most as many steps as there are nodes
unfoldable pub reached : {X : Type 0} → (is_start : X → Bool) → (leads : X → X → Bool) → List X → List X
reached is_start leads nodes = reached_in (length nodes) is_start leads nodes

-- a path over nodes of the list, from a start to a node
pub data Path {X : Type 0} (is_start : X → Bool) (leads : X → X → Bool) (nodes : List X) : X → Type 0 where
  start : (x : X) → Contains nodes x → IsTrue (is_start x) → Path is_start leads nodes x
  step : (x y : X) → Path is_start leads nodes x → Contains nodes y → IsTrue (leads x y) → Path is_start leads nodes y
