-- What all names of a list begin with.
use Rattle.std.specs.Prelude.{ℕ, ◌≡◌, ◌≤◌, ◌<◌, List, length, slice_index}
use Rattle.std.specs.List.{All}
use Rattle.std.proofs.Common.{Bor}

-- the name begins with these bytes
pub record BeginsWith (start name : List ℕ) : Type 0 where
  pub within : length start ≤ length name
  pub is : (k : ℕ) → k < length start → slice_index name k ≡ slice_index start k

abbrev pub AllBegin : List ℕ → List (Bor (List ℕ)) → Type 0
AllBegin start names = All (λ (name : Bor (List ℕ)). BeginsWith start name.now) names
