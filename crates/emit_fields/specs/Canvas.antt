-- What a canvas holds.
use Rattle.std.specs.Prelude.{ℕ, List}

-- its bytes, and the length up to which it grows without more memory
pub record CanvasState : Type 0 where
  pub bytes : List ℕ
  pub room : ℕ
