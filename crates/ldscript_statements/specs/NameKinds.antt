-- Kinds of names (this project's own).
use Rattle.std.specs.Prelude.{◌≡◌, ℕ, ◌+◌, ◌*◌, ◌%◌, ◌==◌, Bool, false, List, length, slice_index}
use Rattle.std.specs.Int.{bit_at}
use Rattle.ldscript_statements.specs.declared.name_kinds.NameKinds.{NameKinds}

-- one of 64, by the length and the second byte
abbrev pub kind_of : List ℕ → ℕ
kind_of name = (length name % 64 * 31 + slice_index name 1) % 64

-- whether there is a name of this one's kind
unfoldable pub has_kind : NameKinds → List ℕ → Bool
has_kind kinds name = bit_at kinds.bits (kind_of name) == 1

-- a table has no name of a kind of which there is none
abbrev pub AreKindsOf : NameKinds → (List ℕ → Bool) → Type 0
AreKindsOf kinds has = (name : List ℕ) → has_kind kinds name ≡ false → has name ≡ false
