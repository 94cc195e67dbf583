-- Where a section stands among the linked ones.
use Rattle.std.specs.Prelude.{◌≡◌, ℕ, ◌<◌, List, get_or, length}
use Rattle.elfobj_file.specs.declared.section.Section.{Section}
use Rattle.elfobj_file.specs.declared.section.SectionIndex.{SectionIndex}

-- the section at place i has this number
pub record IsNumberedAt (sections : List Section) (number : SectionIndex) (i : ℕ) : Type 0 where
  pub within : i < length sections
  pub number_is : (d : Section) → (get_or sections i d).number.0 ≡ number.0
