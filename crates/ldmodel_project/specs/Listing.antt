-- Objects in their order under stable keys.
use Rattle.std.specs.Prelude.{ℕ, ◌≤◌, List, [], ◌∷◌, map, count_by, nat_eq, if◌then◌else◌, Option, Some, None}
use Rattle.ldmodel.specs.Project.{NamedObject}

-- an object and the key that it keeps while the project has it
pub record Listed : Type 0 where
  pub key : ℕ
  pub named : NamedObject

abbrev pub objects_of : List Listed → List NamedObject
objects_of entries = map (λ (e : Listed). e.named) entries

-- their keys, in the same order
abbrev pub keys_of : List Listed → List ℕ
keys_of entries = map (λ (e : Listed). e.key) entries

-- no key stands twice
abbrev pub AreKeysDistinct : List ℕ → Type 0
AreKeysDistinct keys = (key : ℕ) → count_by (nat_eq key) keys ≤ 1

-- the object under a key, where there is one
abbrev pub found_under : List Listed → ℕ → Option NamedObject
found_under [] key = None
found_under (e ∷ es) key = if nat_eq key e.key then Some e.named else found_under es key

-- how often a key is listed
abbrev pub key_count : List Listed → ℕ → ℕ
key_count entries key = count_by (λ (e : Listed). nat_eq key e.key) entries

-- what is kept, the key of the next new object, and how many more objects fit with no allocation
pub record Contents : Type 0 where
  pub entries : List Listed
  pub vacant_key : ℕ
  pub room : ℕ
