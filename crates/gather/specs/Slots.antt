-- The header numbers of objects, those of each after those of the one before.
use Rattle.std.specs.Prelude.{◌≡◌, ◌≤◌, ◌<◌, ◌+◌, ℕ, List, Some, Contains, length, slice_get, slice_index_or}
use Rattle.std.specs.Prelude.{sum_by, take}
use Rattle.elfobj.specs.Sections.{LinkedSection}
use Rattle.ldmodel.specs.Project.{NamedObject, Project}
use Rattle.gather.specs.declared.slots.Slots.{Slots}

abbrev pub no_slots : Slots
no_slots = record { begin = 0; count = 0; linked = 0 }

-- those of object number n
abbrev pub slots_of : List Slots → ℕ → Slots
slots_of headers n = slice_index_or headers n no_slots

-- the linked sections of each object of the project are counted
abbrev pub AreLinkedCounted : Project → List Slots → Type 0
AreLinkedCounted project headers =
    (i : ℕ) (object : NamedObject) (section : LinkedSection) → slice_get project.objects i ≡ Some object
    → Contains object.object.sections section
    → section.number.0 < (slots_of headers i).count

-- how many linked sections these objects have
abbrev pub linked_in : List NamedObject → ℕ
linked_in objects = sum_by (λ (object : NamedObject). length object.object.sections) objects

-- of each object it is known how many linked sections those before it have
abbrev pub AreLinkedBefore : Project → List Slots → Type 0
AreLinkedBefore project headers =
    (i : ℕ) (x : Slots) → slice_get headers i ≡ Some x → x.linked ≡ linked_in (take i project.objects)

-- the header numbers of objects do not meet, and all are below the total
pub record AreLaid (headers : List Slots) (total : ℕ) : Type 0 where
  pub within : (n : ℕ) → n < length headers → (slots_of headers n).begin + (slots_of headers n).count ≤ total
  pub apart : (n m : ℕ) → n < m → m < length headers
      → (slots_of headers n).begin + (slots_of headers n).count ≤ (slots_of headers m).begin
