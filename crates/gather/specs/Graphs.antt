-- Graphs of sections by their numbers, and what can be reached in one.
use Rattle.std.specs.Prelude.{ℕ, ◌≡◌, ◌<◌, Bool, true, false, cond, ◌||◌, List, ◌∷◌, [], ◌++◌, length}
use Rattle.std.specs.Prelude.{slice_index_or, slice_set, Contains}

-- sections by their numbers: of each whether it is left out, the numbers of the roots, and which section refers to
-- which. A number past the end of `out` is that of no section
pub record Graph : Type 1 where
  pub out : List Bool
  pub roots : List ℕ
  pub refers : ℕ → ℕ → Type 0

abbrev pub graph_of : List Bool → List ℕ → (ℕ → ℕ → Type 0) → Graph
graph_of out roots refers = record { out = out; roots = roots; refers = refers }

-- a section that is not left out
abbrev pub IsIn : Graph → ℕ → Type 0
IsIn g s = slice_index_or g.out s true ≡ false

-- a relocation of a refers to b
abbrev pub LeadsTo : Graph → ℕ → ℕ → Type 0
LeadsTo g a b = (a < length g.out) × g.refers a b

-- a root, or what a live section refers to; none of them left out
pub data IsLive (g : Graph) : ℕ → Type 0 where
  from_root : (s : ℕ) → Contains g.roots s → IsIn g s → IsLive g s
  from_live : (a b : ℕ) → IsLive g a → LeadsTo g a b → IsIn g b → IsLive g b

abbrev pub IsMarked : List Bool → ℕ → Type 0
IsMarked live s = slice_index_or live s false ≡ true

-- what a visit of one section leaves: one that is left out or marked changes nothing, another is marked and put on the
-- stack
abbrev pub IsVisit : List Bool → ℕ → (live : List Bool) (stack : List ℕ) (live' : List Bool) (stack' : List ℕ) → Type 0
IsVisit out next live stack live' stack' =
    cond (slice_index_or out next true || slice_index_or live next false)
    ((live' ≡ live) × (stack' ≡ stack))
    ((live' ≡ slice_set live next true) × (stack' ≡ stack ++ next ∷ []))
