-- Lists that are set aside.
use Rattle.std.specs.Prelude.{ℕ, ◌≡◌, ◌<◌, List, ◌++◌, map, length, remove, slice_index_or}
use Rattle.std.specs.Vec.{vec_capacity}
use Rattle.std.proofs.Common.{Vec, Global}
use Rattle.symres_table.specs.declared.symbol.Numbered.{Numbered}

-- for how many symbols each list has memory
abbrev pub rooms : List (Vec Numbered Global) → List ℕ
rooms ls = map (λ (v : Vec Numbered Global). vec_capacity v) ls

-- a list with this room was taken out
pub record Takes (old new : List ℕ) (room : ℕ) : Type 0 where
  pub from : ℕ
  pub within : from < length old
  pub is : slice_index_or old from 0 ≡ room
  pub rest : new ≡ remove old from

-- lists were only added
abbrev pub Adds : List ℕ → List ℕ → Type 0
Adds old new = (more : List ℕ) × (new ≡ old ++ more)
