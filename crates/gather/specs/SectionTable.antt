-- The numbers of input sections.
use Rattle.std.specs.Prelude.{◌≡◌, ◌<◌, ◌+◌, ℕ, Bool, true, List, length, Option, Some, None, position}
use Rattle.std.specs.Prelude.{nat_lt, if◌then◌else◌, slice_get, take, All, Contains, IsSome}
use Rattle.std.specs.Option.{option_map}
use Rattle.ldmodel.specs.InputSections.{common_blocks, input_sections}
use Rattle.ldmodel.specs.Project.{NamedObject, Project}
use Rattle.ldmodel.specs.Sections.{InputSection}
use Rattle.ldmodel.specs.declared.sections.Part.{Part}
use Rattle.ldmodel.specs.declared.sections.Part.TheVariants.{InTable, InCommon}
use Rattle.gather.specs.Ranks.{is_ranked}
use Rattle.gather.specs.Slots.{linked_in, slots_of}
use Rattle.gather.specs.declared.input_section_table.InputSectionTable.{InputSectionTable}
use Rattle.gather.specs.declared.slots.Slots.{Slots}

-- the number of header number k of object number n
abbrev pub slot_of : List Slots → ℕ → ℕ → Option ℕ
slot_of slots n k =
    if nat_lt k (slots_of slots n).count then Some ((slots_of slots n).begin + k) else None

-- the header numbers of object number n, of which number k has the number that is k past the first
abbrev pub slots_at : InputSectionTable → ℕ → Slots
slots_at t n = slots_of t.objects.items n

-- the number of a common block
abbrev pub block_of : InputSectionTable → ℕ → ℕ → Option ℕ
block_of t n x = option_map (λ (j : ℕ). t.slots + j) (position (is_ranked (n, true, x)) t.blocks.items)

-- the number of a part of object number n, if it has one
abbrev pub number_of : InputSectionTable → ℕ → Part → Option ℕ
number_of t n (InTable k) = slot_of t.objects.items n k.0
number_of t n (InCommon x) = block_of t n x.0

-- how many numbers there are
abbrev pub len_of : InputSectionTable → ℕ
len_of t = t.slots + length t.blocks.items

-- how many linked sections the objects before number n have
abbrev pub linked_of : InputSectionTable → ℕ → Option ℕ
linked_of t n = option_map (λ (x : Slots). x.linked) (slice_get t.objects.items n)

-- each input section of the project has a number, and no two parts of objects have the same one; the linked sections of
-- objects are counted
pub record IsTableOf (project : Project) (t : InputSectionTable) : Type 0 where
  pub all : (section : InputSection) → Contains (input_sections project) section
      → IsSome (number_of t section.id.object section.id.part)
  pub below : (n : ℕ) (q : Part) (at : ℕ) → number_of t n q ≡ Some at → at < len_of t
  pub apart : (n m : ℕ) (q r : Part) (at : ℕ) → number_of t n q ≡ Some at → number_of t m r ≡ Some at
      → (n ≡ m) × (q ≡ r)
  pub linked : (n before : ℕ) → linked_of t n ≡ Some before → before ≡ linked_in (take n project.objects)

-- a part is a common block whose rank is among these
abbrev pub IsBlockAmong : List (ℕ × Bool × ℕ) → ℕ → Part → Type 0
IsBlockAmong ranks n (InTable k) = ⊥
IsBlockAmong ranks n (InCommon x) = Contains ranks (n, true, x.0)

-- the ranks of the common blocks of the project are among these
abbrev pub AreBlockRanks : Project → List (ℕ × Bool × ℕ) → Type 0
AreBlockRanks project ranks =
    (i : ℕ) (object : NamedObject) → slice_get project.objects i ≡ Some object
    → All (λ (section : InputSection). IsBlockAmong ranks section.id.object section.id.part)
    (common_blocks project i object)
