-- The fields of a stretch of relocations as marks on the bytes of a section.
use Rattle.std.specs.Prelude.{◌≡◌, ℕ, ◌<◌, ◌≤◌, List, Bool, false, true, get_or, length}
use Rattle.elfobj_file.specs.Relocations.{field_end, meets}
use Rattle.elfobj_file.specs.declared.relocation.Relocation.{Relocation}

-- byte b lies in the field of relocation number p of a list
pub record IsTaken (all : List Relocation) (p b : ℕ) : Type 0 where
  pub low : (d : Relocation) → (get_or all p d).offset ≤ b
  pub high : (d : Relocation) → b < field_end (get_or all p d)

-- the fields of those from number `from` on and before `until` end at n or before
abbrev pub AreBelow : List Relocation → ℕ → ℕ → ℕ → Type 0
AreBelow all from until n = (p : ℕ) (d : Relocation) → from ≤ p → p < until → field_end (get_or all p d) ≤ n

-- those from number `from` on and before `until` share no byte, and the marks are on their bytes
pub record IsWindow (all : List Relocation) (from until : ℕ) (marks : List Bool) : Type 0 where
  pub order : from ≤ until
  pub within : until ≤ length all
  pub fields : AreBelow all from until (length marks)
  pub apart : (p q : ℕ) (d : Relocation) → from ≤ p → p < q → q < until
      → meets (get_or all p d) (get_or all q d) ≡ false
  pub marked : (p b : ℕ) → from ≤ p → p < until → IsTaken all p b → get_or marks b false ≡ true
  pub found : (b : ℕ) → get_or marks b false ≡ true → (p : ℕ) × (from ≤ p) × (p < until) × IsTaken all p b
