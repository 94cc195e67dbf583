-- Strings of a string table (gABI, "String Table": a string runs to the next zero byte), and the
-- limits on names of this profile.
use Rattle.std.specs.Prelude.{ℕ, List, length, take, drop, position, Option, Bool, ◌&&◌, ◌==◌, nat_le}
use Rattle.std.specs.List.{list_all}
use Rattle.std.specs.Option.{option_map}

-- the string that begins at a place, if a zero byte ends it inside the table
unfoldable pub string_at : List ℕ → ℕ → Option (List ℕ)
string_at table at = option_map (λ n. take n (drop at table)) (position (λ byte. byte == 0) (drop at table))

-- a byte from `!` to `~`
abbrev pub is_graphic : ℕ → Bool
is_graphic byte = nat_le 33 byte && nat_le byte 126

-- 1 to 65,535 graphic bytes
unfoldable pub is_name : List ℕ → Bool
is_name name = nat_le 1 (length name) && nat_le (length name) 65535 && list_all is_graphic name
