-- Names in one text, and the room for more.
use Rattle.std.specs.Prelude.{◌≤◌, ℕ, List, [], ◌∷◌, drop, length, take}
use Rattle.std.specs.List.{sum_by}
use Rattle.ldmodel.specs.Project.{NamedObject}

-- names; and for how many more, and for how many bytes of these, there is room
pub record Names : Type 0 where
  pub names : List (List ℕ)
  pub count_room : ℕ
  pub byte_room : ℕ

-- the names of these lengths, one after the other from the beginning of a text
abbrev pub names_in : (text : List ℕ) → (lengths : List ℕ) → List (List ℕ)
names_in text [] = []
names_in text (n ∷ ns) = take n text ∷ names_in (drop n text) ns

-- there is room for the names of these objects
pub record HasRoomFor (objects : List NamedObject) (names : Names) : Type 0 where
  pub count : length objects ≤ names.count_room
  pub bytes : sum_by (λ (object : NamedObject). length object.name) objects ≤ names.byte_room
