-- Pieces with the fields that lie in them.
use Rattle.std.specs.Prelude.{◌≡◌, ℕ, ◌+◌, ◌-◌, ◌<◌, ◌≤◌, max, min, List, [], ◌∷◌, length, slice_index, AllPairs, Bool}
use Rattle.std.specs.Prelude.{false, ◌&&◌, nat_le, nat_lt, if◌then◌else◌}
use Rattle.emit_fields.specs.declared.patch.Patch.{Patch}

-- where a field ends in its piece
abbrev pub patch_end : Patch → ℕ
patch_end patch = patch.offset + length patch.field

abbrev pub patch_covers : Patch → ℕ → Bool
patch_covers patch i = nat_le patch.offset i && nat_lt i (patch_end patch)

-- a byte of a piece: of the first field that covers it (no two do where they share no byte), else its own
abbrev pub patched_byte : List ℕ → List Patch → ℕ → ℕ
patched_byte bytes [] i = slice_index bytes i
patched_byte bytes (patch ∷ rest) i =
    if patch_covers patch i then slice_index patch.field (i - patch.offset) else patched_byte bytes rest i

-- they lie from an offset on and up to a limit, each behind the one before
abbrev pub AreInOrder : ℕ → ℕ → List Patch → Type 0
AreInOrder from limit [] = from ≤ limit
AreInOrder from limit (patch ∷ rest) = (from ≤ patch.offset) × AreInOrder (patch_end patch) limit rest

-- two fields share a byte
abbrev pub patches_meet : Patch → Patch → Bool
patches_meet one other = nat_lt (max one.offset other.offset) (min (patch_end one) (patch_end other))

-- no two fields share a byte
abbrev pub AreApart : List Patch → Type 0
AreApart patches = AllPairs (λ one other. patches_meet one other ≡ false) patches

-- a field with a byte, which ends at the limit at the latest
pub record IsWithin (limit : ℕ) (patch : Patch) : Type 0 where
  pub some : 0 < length patch.field
  pub end : patch_end patch ≤ limit
