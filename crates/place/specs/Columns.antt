-- Columns over the numbers of input sections.
use Rattle.std.specs.Prelude.{◌≡◌, ◌<◌, ◌==◌, ◌++◌, ℕ, Bool, false, List, length, Option, Some, None}
use Rattle.std.specs.Prelude.{slice_index_or, find, All, IsSome}
use Rattle.std.specs.Option.{option_map}
use Rattle.place.specs.declared.indexed_section.IndexedSection.{IndexedSection}
use Rattle.place.specs.declared.indexed_layout.SectionAddress.{SectionAddress}
use Rattle.gather.specs.SectionTable.{len_of, number_of}
use Rattle.gather.specs.declared.input_section_table.InputSectionTable.{InputSectionTable}

-- all of these have numbers
abbrev pub HaveNumbers : InputSectionTable → List IndexedSection → Type 0
HaveNumbers t entries = All (λ (e : IndexedSection). IsSome (number_of t e.object e.part)) entries

abbrev pub is_number : ℕ → Option ℕ → Bool
is_number at None = false
is_number at (Some n) = at == n

-- whether an entry has this number
abbrev pub has_number : InputSectionTable → ℕ → IndexedSection → Bool
has_number t at e = is_number at (number_of t e.object e.part)

-- where an input section stands
abbrev pub address_of_entry : IndexedSection → SectionAddress
address_of_entry e = e.address

-- a column has for each number the place of the first entry of it
pub record IsColumn (t : InputSectionTable) (entries : List IndexedSection) (places : List (Option SectionAddress))
    : Type 0 where
  pub long : length places ≡ len_of t
  pub firsts : (at : ℕ) → at < len_of t
      → slice_index_or places at None ≡ option_map address_of_entry (find (has_number t at) entries)

-- a column of some entries becomes one of these too
abbrev pub AddsEntries : InputSectionTable → (old new : List (Option SectionAddress)) → List IndexedSection → Type 0
AddsEntries t old new these = (before : List IndexedSection) → IsColumn t before old → IsColumn t (before ++ these) new
