-- Tables of relocations as places in the file, and runs of decoded entries. Entry number k of class c, below 24, takes
-- the 24 bytes of the file from 24 * k + c on, so that tables of one class that overlap in the file have entries in
-- common.
use Rattle.std.specs.Prelude.{◌≡◌, ℕ, ◌+◌, ◌*◌, ◌/◌, ◌%◌, ◌<◌, ◌≤◌, List, Bool, ◌||◌, get_or, length, map}
use Rattle.std.specs.List.{All, list_any, slice_range}
use Rattle.elfobj_file.specs.RelocationEntries.{relocation_entries_below}
use Rattle.elfobj_file.specs.Relocations.{relocation_entries, relocation_of}
use Rattle.elfobj_file.specs.Tables.{is_outside, is_strange_type, names_no_symbol}
use Rattle.elfobj_file.specs.declared.relocation.Relocation.{Relocation}
use Rattle.elfobj_file.specs.declared.relocation_entry.RelocationEntry.{RelocationEntry}
use Rattle.elfobj.specs.declared.relocation_fault.EntryFault.{EntryFault}
use Rattle.elfobj.specs.declared.relocation_fault.EntryFault.TheVariants.{Any, Symbol, Kind, Bounds}
use Rattle.elfobj.specs.declared.relocation_run.RelocationRun.{RelocationRun}
use Rattle.elfobj.specs.declared.relocation_run.SectionTable.{SectionTable}
use Rattle.elfobj_file.specs.declared.section.Section.{Section}

abbrev pub table_entries : List ℕ → SectionTable → List RelocationEntry
table_entries bytes t = relocation_entries_below bytes t.start t.count

-- the entries of its section, inside the file
pub record IsTableOf (bytes : List ℕ) (t : SectionTable) : Type 0 where
  pub entries : table_entries bytes t ≡ relocation_entries bytes t.section.number.0
  pub within : t.start + 24 * t.count ≤ length bytes

-- one table for each of these sections
pub record AreTablesOf (bytes : List ℕ) (sections : List Section) (tables : List SectionTable) : Type 0 where
  pub same : map (λ t. t.section) tables ≡ sections
  pub each : All (IsTableOf bytes) tables

-- whether an entry of a section is outside the profile, in one of the ways; n is the number of symbols
abbrev pub is_refused_for : EntryFault → ℕ → Section → RelocationEntry → Bool
is_refused_for Any n s e = names_no_symbol n e || is_strange_type e || is_outside s.kind s.size (relocation_of e)
is_refused_for Symbol n s e = names_no_symbol n e
is_refused_for Kind n s e = is_strange_type e
is_refused_for Bounds n s e = is_outside s.kind s.size (relocation_of e)

abbrev pub has_refused_entry : EntryFault → List ℕ → ℕ → Section → Bool
has_refused_entry fault bytes n s = list_any (is_refused_for fault n s) (relocation_entries bytes s.number.0)

-- if a table is of this class, its entries have numbers from `low` on and below `end`
abbrev pub IsCovered : ℕ → ℕ → ℕ → SectionTable → Type 0
IsCovered class low end t = 0 < t.count → t.start % 24 ≡ class → (low ≤ t.start / 24) × (t.start / 24 + t.count ≤ end)

-- entries of a class, decoded, which stand among `all`, and cover each table of the class
pub record IsRun (bytes : List ℕ) (tables : List SectionTable) (all : List Relocation) (class : ℕ)
    (run : RelocationRun) : Type 0 where
  pub within : run.first + run.count ≤ length all
  pub entries : slice_range all run.first (run.first + run.count) ≡ map relocation_of
      (relocation_entries_below bytes (24 * run.low + class) run.count)
  pub covers : All (IsCovered class run.low (run.low + run.count)) tables

-- the runs of the first n classes
pub record AreRuns (bytes : List ℕ) (tables : List SectionTable) (all : List Relocation) (n : ℕ)
    (runs : List RelocationRun) : Type 0 where
  pub count : length runs ≡ n
  pub each : (class : ℕ) (d : RelocationRun) → class < n → IsRun bytes tables all class (get_or runs class d)
