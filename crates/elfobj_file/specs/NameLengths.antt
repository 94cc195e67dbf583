-- What a reader of many names keeps of a string table: for each byte the length of the name that begins there.
use Rattle.std.specs.Prelude.{ℕ, List, [], ◌∷◌, length, ◌+◌, Option, Some, None, Bool, ◌==◌, ◌||◌, if◌then◌else◌}
use Rattle.elfobj_file.specs.Names.{string_at, is_graphic, is_name}
use Rattle.elfobj_file.specs.declared.constants.TheConstants.{MAX_NAME_LENGTH}

-- the length of a name, and 0 for none within the limits
abbrev pub length_of_name : Option (List ℕ) → ℕ
length_of_name None = 0
length_of_name (Some name) = if is_name name then length name else 0

-- the length of the name that a table begins with
unfoldable pub first_length : List ℕ → ℕ
first_length table = length_of_name (string_at table 0)

-- the length of the name that begins at each of its bytes
unfoldable pub name_lengths : List ℕ → List ℕ
name_lengths [] = []
name_lengths (b ∷ table) = first_length (b ∷ table) ∷ name_lengths table

-- the length at a byte, where the rest of the table begins with a zero byte, or with a name of this length
abbrev pub length_before : ℕ → Bool → ℕ → ℕ
length_before b ends n = if is_graphic b
    then (if ends then 1 else (if (n == 0) || (n == MAX_NAME_LENGTH) then 0 else n + 1)) else 0
