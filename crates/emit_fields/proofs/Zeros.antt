-- A list of one number, many times.
use Rattle.emit_fields.proofs.Common.{arith, cases_lt, inl, inr, replicate, slice_index_or, ℕ, ◌<◌, ◌≡◌, ◌≤◌, ◌⊎◌}
use Rattle.std.proofs.lemmas.List.{get_or-replicate, get_or_past, length-replicate}

-- Each element of a list of one number is that number, and so is what is read past its end.
pub each_is : (n z i : ℕ) → slice_index_or (replicate n z) i z ≡ z
each_is n z i = by_case (cases_lt i n) where
  by_case : (i < n) ⊎ (n ≤ i) → slice_index_or (replicate n z) i z ≡ z
  by_case (inl below) = get_or-replicate n i z z below
  by_case (inr past) = get_or_past (replicate n z) i z (search (length-replicate n z, past, arith))
