-- What a gap of an output section is (GNU ld manual, "Output Section Fill"): a longest run of addresses in it that no
-- input section and no data command covers.
use Rattle.std.specs.Prelude.{◌≡◌, ℕ, ◌≤◌, None, ◌⊎◌}
use Rattle.std.specs.List.{Contains}
use Rattle.ldmodel.specs.Image.{covering_piece, covering_data, ends_in}
use Rattle.ldmodel.specs.Layout.{PlacedOutput}

-- nothing covers an address
pub record IsBare (output : PlacedOutput) (at : ℕ) : Type 0 where
  pub piece : covering_piece output at ≡ None
  pub data_command : covering_data output at ≡ None

-- the gap that an address lies in begins here: all from here to there is bare, and the section starts here, or
-- something that is not empty ends here
pub record IsGapStart (output : PlacedOutput) (at from : ℕ) : Type 0 where
  pub inside : output.start ≤ from
  pub before : from ≤ at
  pub bare : (x : ℕ) → from ≤ x → x ≤ at → IsBare output x
  pub longest : (from ≡ output.start) ⊎ Contains (ends_in output) from
