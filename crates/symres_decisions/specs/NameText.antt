-- Names in byte order, and names one after the other in memory.
use Rattle.std.specs.Prelude.{ℕ, ◌≡◌, ◌<◌, ◌≤◌, ◌++◌, Bool, true, false, List, Option, is_some, length, slice_index_or}
use Rattle.std.specs.List.{slice_range}
use Rattle.std.specs.List.Sorted.{IsPermutation, IsSortedBy}
use Rattle.std.specs.Cmp.Lexicographic.{slice_cmp}
use Rattle.std.specs.Ordering.{is_lt, nat_cmp}
use Rattle.symres_table.specs.State.{slot}
use Rattle.symres_decisions.specs.declared.name_text.WrittenName.{WrittenName}
use Rattle.symres_decisions.specs.declared.sorted_names.ComparedName.{ComparedName}

-- the one name comes before the other, byte by byte
abbrev pub comes_before : List ℕ × ℕ → List ℕ × ℕ → Bool
comes_before x y = is_lt (slice_cmp nat_cmp x.0 y.0)

abbrev pub IsInByteOrder : List (List ℕ × ℕ) → Type 0
IsInByteOrder names = IsSortedBy comes_before names

-- the names of this list with their keys, in byte order
pub record AreInOrder (order names : List (List ℕ × ℕ)) : Type 0 where
  pub same : IsPermutation order names
  pub up : IsInByteOrder names

-- the name belongs here: the names before it come before this one, and the others don't
pub record BelongsAt (names : List (List ℕ × ℕ)) (name : List ℕ) (place : ℕ) : Type 0 where
  pub within : place ≤ length names
  pub before : (i : ℕ) (e : List ℕ × ℕ) → i < place → is_lt (slice_cmp nat_cmp (slice_index_or names i e).0 name) ≡ true
  pub after : (i : ℕ) (e : List ℕ × ℕ) → place ≤ i → i < length names
      → is_lt (slice_cmp nat_cmp (slice_index_or names i e).0 name) ≡ false

-- the key has a name
abbrev pub is_known : List (Option (List ℕ)) → List ℕ × ℕ → Bool
is_known names e = is_some (slot names e.1)

-- a name that is quick to compare, with the number of its key
abbrev pub compared_number : ComparedName → List ℕ × ℕ
compared_number x = (x.name, x.key.0)

-- the name was written after these bytes
pub record IsWritten (bytes name : List ℕ) (key : ℕ) (w : WrittenName) : Type 0 where
  pub start : w.start ≡ length bytes
  pub end : w.end ≡ length (bytes ++ name)
  pub number : w.number ≡ key

-- the name lies in these bytes
pub record IsInside (bytes : List ℕ) (w : WrittenName) : Type 0 where
  pub order : w.start ≤ w.end
  pub end : w.end ≤ length bytes

-- the name with the number of its key
abbrev pub written : List ℕ → WrittenName → List ℕ × ℕ
written bytes w = (slice_range bytes w.start w.end, w.number)
