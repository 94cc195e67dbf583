-- The first bytes of a name as a number.
use Rattle.std.specs.Prelude.{ℕ, zero, suc, ◌≡◌, ◌+◌, ◌*◌, ◌^◌, ◌<◌, List, [], ◌∷◌, slice_index}

-- the number that the first bytes of a name spell, the first one worth most, with zeros after the end of the name
unfoldable pub prefix_number : ℕ → List ℕ → ℕ
prefix_number zero name = 0
prefix_number (suc n) [] = 0
prefix_number (suc n) (b ∷ bs) = b * 256 ^ n + prefix_number n bs

-- the number stands for the first sixteen bytes of the name
pub record IsPrefixKey (number : ℕ) (name : List ℕ) : Type 0 where
  pub bytes : (k : ℕ) → slice_index name k < 256
  pub is : number ≡ prefix_number 16 name
