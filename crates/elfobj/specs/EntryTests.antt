-- What the tests of entries keep: which entries have passed, for a section and for all that are no smaller.
use Rattle.std.specs.Prelude.{◌≡◌, ℕ, ◌+◌, ◌*◌, ◌%◌, ◌<◌, ◌≤◌, List, false, get_or, length}
use Rattle.elfobj_file.specs.RelocationEntries.{relocation_entry_at}
use Rattle.elfobj.specs.Runs.{has_refused_entry, is_refused_for}
use Rattle.elfobj.specs.declared.relocation_fault.EntryFault.{EntryFault}
use Rattle.elfobj.specs.declared.relocation_run.SectionTable.{SectionTable}
use Rattle.elfobj_file.specs.declared.section.Section.{Section}
use Rattle.elfobj_file.specs.declared.section.SectionKind.{SectionKind}
use Rattle.elfobj_file.specs.declared.section.SectionKind.TheVariants.{Nobits}

abbrev pub ends_in : SectionKind → ℕ → ℕ
ends_in Nobits size = 0
ends_in _ size = size + 1

-- how many ends a field may have in a section: those from 0 to its size, and none in one without bytes in the file
abbrev pub field_ends : Section → ℕ
field_ends s = ends_in s.kind s.size

-- of entries that follow one another from `base` on, those from each one on and before `past` of it are not refused for
-- a section
pub record HavePassed (fault : EntryFault) (bytes : List ℕ) (n : ℕ) (s : Section) (base : ℕ)
    (past : List ℕ) : Type 0 where
  pub low : (k : ℕ) → k < length past → k ≤ get_or past k 0
  pub high : (k : ℕ) → k < length past → get_or past k 0 ≤ length past
  pub each : (k j : ℕ) → k < length past → k ≤ j → j < get_or past k 0
      → is_refused_for fault n s (relocation_entry_at bytes (base + 24 * j)) ≡ false

-- a table of a class has no entry that is refused
abbrev pub PassesIn : ℕ → EntryFault → List ℕ → ℕ → SectionTable → Type 0
PassesIn class fault bytes n t = 0 < t.count → t.start % 24 ≡ class → has_refused_entry fault bytes n t.section ≡ false
