-- Marks of names: which names may be in use.
use Rattle.std.specs.Prelude.{◌≡◌, ℕ, ◌+◌, ◌*◌, ◌/◌, ◌%◌, ◌^◌, List, Bool, true, Some, length, slice_index_or}
use Rattle.std.specs.List.{fold}
use Rattle.slab.specs.Slab.{Slab, get}
use Rattle.ldmodel.specs.Project.{NamedObject}
use Rattle.ldmodel_project.specs.Next.{put_under}
use Rattle.ldmodel_project.specs.declared.staged.Step.{Step}

unfoldable pub mixed : ℕ → ℕ → ℕ
mixed hash byte = (hash + byte) % 2 ^ 64 * 11400714819323198485 % 2 ^ 64

-- a quick hash
unfoldable pub hash_of : List ℕ → ℕ
hash_of name = fold mixed 0 name

-- which of this number of marks is that of a name
unfoldable pub place_in : ℕ → List ℕ → ℕ
place_in count name = hash_of name / 2 ^ 32 % count

-- the mark of the name is set, or there are no marks
abbrev pub may_have : List Bool → List ℕ → Bool
may_have marks name = slice_index_or marks (place_in (length marks) name) true

-- the mark of the name of each object is set
abbrev pub AreTagged : List Bool → Slab NamedObject → Type 0
AreTagged marks slots =
    (key : ℕ) (object : NamedObject) → get slots key ≡ Some object → may_have marks object.name ≡ true

-- no mark goes
abbrev pub KeepsMarks : List Bool → List Bool → Type 0
KeepsMarks old new = (name : List ℕ) → may_have old name ≡ true → may_have new name ≡ true

-- the mark of the name that a step puts is set
abbrev pub NotesPut : List Bool → Step → Type 0
NotesPut marks step =
    (key : ℕ) (object : NamedObject) → put_under step key ≡ Some object → may_have marks object.name ≡ true
