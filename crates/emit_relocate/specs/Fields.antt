-- Fields and faults of relocations, as they are added to lists.
use Rattle.std.specs.Prelude.{◌≡◌, ◌≤◌, ℕ, List, ◌++◌, map, filter, Option, Some, [], ◌∷◌, ◌⊎◌, ◌<◌, slice_get}
use Rattle.std.specs.Prelude.{sum_by}
use Rattle.std.specs.List.{All, filter_map}
use Rattle.std.specs.List.Sorted.{IsNonDecreasingBy}
use Rattle.std.specs.Result.{result_err}
use Rattle.elfobj.specs.Profile as elf
use Rattle.elfobj.specs.Relocations.{field_end}
use Rattle.elfobj.specs.Sections.{LinkedSection}
use Rattle.elfobj.specs.declared.relocation.Relocation.{Relocation}
use Rattle.emit_fields.specs.Patches.{AreApart, AreInOrder, patched_byte}
use Rattle.emit_fields.specs.declared.patch.Patch.{Patch}
use Rattle.ldmodel.specs.Counts.{Counts}
use Rattle.ldmodel.specs.Fault.{Fault}
use Rattle.ldmodel.specs.FaultCode.{fault_of}
use Rattle.ldmodel.specs.Project.{NamedObject}
use Rattle.ldmodel.specs.Raised.{raised}
use Rattle.ldmodel.specs.Relocations.{Site, fields_of, is_evaluated, patch_of, site_field, site_value, sites_at}
use Rattle.ldmodel.specs.SymbolValues.{SymbolValue, Number, NotDefined, NotInOutput}
use Rattle.ldmodel.specs.declared.fault.Fault as code
use Rattle.elfobj.specs.declared.meter.Count.TheVariants as count
use Rattle.emit_relocate.specs.KnownLink.{KnownLink}
use Rattle.emit_relocate.specs.Sites.{IsFieldOf}

-- the sites among relocations of a section
abbrev pub sites_among : NamedObject → LinkedSection → ℕ → List Relocation → List Site
sites_among object section start rs =
    map (λ r. record { object = object; section = section; start = start; relocation = r })
    (filter (λ (relocation : Relocation). is_evaluated relocation.kind) rs)

abbrev pub field_at : KnownLink → Site → Option Patch
field_at link site = patch_of site (site_field link.project link.layout site)

abbrev pub fault_at : KnownLink → Site → Option Fault
fault_at link site = result_err (site_field link.project link.layout site)

-- what the faults of the code stand for
abbrev pub faults_of : KnownLink → List code.Fault → List Fault
faults_of link fs = map (fault_of link.project link.number) fs

-- a field is worked out where the symbol has a value
abbrev pub work_of : SymbolValue → ℕ
work_of (Number x) = 1
work_of NotDefined = 0
work_of NotInOutput = 0

-- how many of these sites have a symbol with a value
abbrev pub evaluations : KnownLink → List Site → ℕ
evaluations link ts = sum_by (λ (site : Site). work_of (site_value link.project link.layout site)) ts

-- the faults of these sites were added, and each site counted whose symbol has a value
pub record IsCounted (link : KnownLink) (ts : List Site) (old_faults new_faults : List code.Fault)
    (before after : Counts)
    : Type 0 where
  pub faults : faults_of link new_faults ≡ faults_of link old_faults ++ filter_map (fault_at link) ts
  pub counted : after ≡ raised before count.Fields (evaluations link ts)

-- so were the fields, in this order
pub record IsTried (link : KnownLink) (ts : List Site) (old new : List Patch) (old_faults new_faults : List code.Fault)
    (before after : Counts) : Type 0 where
  pub fields : new ≡ old ++ filter_map (field_at link) ts
  pub counts : IsCounted link ts old_faults new_faults before after

-- a relocation was looked at: it has no field, or its field was added
abbrev pub IsNext : Relocation → List Patch → List Patch → Type 0
IsNext relocation old new = (new ≡ old) ⊎ ((x : Patch) × (new ≡ old ++ x ∷ []) × IsFieldOf relocation x)

-- a field of one of the first n relocations
abbrev pub IsAmong : List Relocation → ℕ → Patch → Type 0
IsAmong rs n x =
    (j : ℕ) × (relocation : Relocation) × (j < n) × (slice_get rs j ≡ Some relocation) × IsFieldOf relocation x

-- fields of the first n relocations, each of which has one at most, in the order of the relocations
pub record AreFieldsOf (rs : List Relocation) (n : ℕ) (fields : List Patch) : Type 0 where
  pub each : All (IsAmong rs n) fields
  pub apart : elf.AreApart rs → AreApart fields
  pub order :
      IsNonDecreasingBy (λ (relocation : Relocation). relocation.offset) rs
      → IsNonDecreasingBy (λ (p : Patch). p.offset) fields

-- they were added
pub record AreAdded (rs : List Relocation) (n : ℕ) (old new : List Patch) : Type 0 where
  pub own : List Patch
  pub fields : new ≡ old ++ own
  pub of : AreFieldsOf rs n own

-- the fields of a section that starts at an address, in the order of their offsets: they give its bytes
pub record IsRun (link : KnownLink) (object : NamedObject) (section : LinkedSection) (start : ℕ)
    (run : List Patch) : Type 0 where
  pub same : (bytes : List ℕ) (i : ℕ) → patched_byte bytes run i
      ≡ patched_byte bytes (fields_of link.project link.layout object section start) i
  pub order : (n : ℕ) → All (λ r. field_end r ≤ n) section.relocations → AreInOrder 0 n run

-- all sites of a section were evaluated: its fields were added in the order of their offsets
pub record IsAdded (link : KnownLink) (object : NamedObject) (section : LinkedSection) (start : ℕ)
    (old new : List Patch)
    (old_faults new_faults : List code.Fault) (before after : Counts) : Type 0 where
  pub run : List Patch
  pub fields : new ≡ old ++ run
  pub is_run : IsRun link object section start run
  pub counts : IsCounted link (sites_at object section start) old_faults new_faults before after
