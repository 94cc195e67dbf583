-- What is written of each section of an object.
use Rattle.std.specs.Prelude.{◌≡◌, ◌≢◌, ◌+◌, ◌-◌, ◌<◌, ◌≤◌, ◌^◌, ◌⊎◌, ℕ, List, [], Some, Contains, length, map}
use Rattle.std.specs.Prelude.{flat_map, slice_get, slice_index}
use Rattle.std.specs.List.{filter_map}
use Rattle.std.specs.Option.{option_map_or}
use Rattle.elfobj.specs.Object.{ObjectData}
use Rattle.elfobj.specs.Sections.{LinkedSection}
use Rattle.elfobj.specs.declared.meter.Count.TheVariants.{Fields}
use Rattle.elfobj.specs.declared.section.SectionKind.{SectionKind}
use Rattle.elfobj.specs.declared.section.SectionKind.TheVariants.{Nobits}
use Rattle.emit_fields.specs.Patches.{AreInOrder, patched_byte}
use Rattle.emit_fields.specs.declared.patch.Patch.{Patch}
use Rattle.ldmodel.specs.Counts.{Counts}
use Rattle.ldmodel.specs.Project.{NamedObject}
use Rattle.ldmodel.specs.Raised.{raised}
use Rattle.ldmodel.specs.Relocations.{Site, sites_at}
use Rattle.ldmodel.specs.declared.names.ObjectPlace.{ObjectPlace}
use Rattle.emit_relocate.specs.Fields.{IsRun, fault_at}
use Rattle.emit_relocate.specs.KnownLink.{KnownLink, named_object}
use Rattle.emit_relocate.specs.SymbolValues.{IsRow}
use Rattle.emit_relocate.specs.declared.previous_link_info.FileRange.{FileRange}
use Rattle.emit_relocate.specs.declared.value.SymbolValue.{SymbolValue}
use Rattle.emit.specs.declared.plan.PlannedSection.{PlannedSection}
use Rattle.emit.specs.declared.located_section.LocatedSection.{LocatedSection}

-- bytes, where they begin in the file, and the fields that lie in them
pub record Written : Type 0 where
  pub at : ℕ
  pub bytes : List ℕ
  pub run : List Patch

abbrev pub written : PlannedSection → Written
written r = record { at = r.at; bytes = r.bytes.now; run = r.fields.items }

abbrev pub written_all : List PlannedSection → List Written
written_all rs = map written rs

abbrev pub count_of : Written → ℕ
count_of w = length w.bytes

-- they lie below a limit, with their fields in order
pub record IsWithin (limit : ℕ) (w : Written) : Type 0 where
  pub end : w.at + length w.bytes ≤ limit
  pub order : AreInOrder 0 (length w.bytes) w.run

-- a section of this kind has bytes in a range of the file
pub record HasBytes (kind : SectionKind) (r : FileRange) : Type 0 where
  pub some : r.length ≢ 0
  pub own : kind ≢ Nobits

-- a range of the file has as many bytes as these, and lies below a limit
pub record IsInFile (limit : ℕ) (bytes : List ℕ) (r : FileRange) : Type 0 where
  pub long : r.length ≡ length bytes
  pub end : r.offset + length bytes ≤ limit

-- a spot is that of a section of an object: it ends in the address space there, and all bytes that it has in the file
-- lie below a limit
pub record CanStand (object : ObjectData) (limit : ℕ) (t : LocatedSection) : Type 0 where
  pub index : t.index.0 < length object.sections
  pub end : (section : LinkedSection) → slice_get object.sections t.index.0 ≡ Some section → t.start + section.size
      < 2 ^ 64
  pub in_file :
      (section : LinkedSection) → slice_get object.sections t.index.0 ≡ Some section → HasBytes section.kind t.range
      → IsInFile limit section.bytes t.range

-- nothing is written of a section that has no bytes in a range of the file, or none of its own
pub record IsNothing (kind : SectionKind) (r : FileRange) (w : Written) : Type 0 where
  pub bytes : w.bytes ≡ []
  pub none : (r.length ≡ 0) ⊎ (kind ≡ Nobits)

-- else all of these bytes, from where the range begins
pub record IsWhole (kind : SectionKind) (bytes : List ℕ) (r : FileRange) (run : List Patch) (w : Written)
    : Type 0 where
  pub own : kind ≢ Nobits
  pub long : r.length ≡ length bytes
  pub is : w ≡ record { at = r.offset; bytes = bytes; run = run }

abbrev pub IsPlanned : SectionKind → List ℕ → FileRange → List Patch → Written → Type 0
IsPlanned kind bytes r run w = IsNothing kind r w ⊎ IsWhole kind bytes r run w

-- an object of a link, as the code has it at hand
pub record IsAtHand (link : KnownLink) (place : ObjectPlace) (object : ObjectData) (values : List SymbolValue)
    (o : NamedObject) : Type 0 where
  pub named : named_object link place ≡ Some o
  pub same : o.object ≡ object
  pub row : IsRow link o values

-- the fields of a section that starts at an address, of whose relocations none has a fault
pub record IsFaultlessRun (link : KnownLink) (object : NamedObject) (section : LinkedSection) (start : ℕ)
    (run : List Patch)
    : Type 0 where
  pub is_run : IsRun link object section start run
  pub faultless : filter_map (fault_at link) (sites_at object section start) ≡ []

-- what is written of a section where it stands
pub record IsPlannedAt (link : KnownLink) (object : NamedObject) (t : LocatedSection) (w : Written) : Type 0 where
  pub section : LinkedSection
  pub section_is : slice_get object.object.sections t.index.0 ≡ Some section
  pub run : List Patch
  pub faultless : IsFaultlessRun link object section t.start run
  pub planned : IsPlanned section.kind section.bytes t.range run w

-- a relocation of these sites has a fault; only fields were counted
pub record IsRefused (link : KnownLink) (ts : List Site) (before after : Counts) : Type 0 where
  pub evaluated : ℕ
  pub counted : after ≡ raised before Fields evaluated
  pub faulty : filter_map (fault_at link) ts ≢ []

-- the sites of a section where it stands
abbrev pub sites_there : NamedObject → LocatedSection → List Site
sites_there object t =
    option_map_or (λ (section : LinkedSection). sites_at object section t.start)
    (slice_get object.object.sections t.index.0) []

abbrev pub sites_in_all : NamedObject → List LocatedSection → List Site
sites_in_all object ts = flat_map (sites_there object) ts

-- byte o comes of one of these
pub record ComesOf (ws : List Written) (bytes : List ℕ) (o : ℕ) : Type 0 where
  pub origin : Written
  pub among : Contains ws origin
  pub above : origin.at ≤ o
  pub below : o < origin.at + length origin.bytes
  pub byte : slice_index bytes o ≡ patched_byte origin.bytes origin.run (o - origin.at)

-- none of these has a byte there, and it is as it was
pub record IsAsBefore (ws : List Written) (old new : List ℕ) (o : ℕ) : Type 0 where
  pub clear : (w : Written) → Contains ws w → (o < w.at) ⊎ (w.at + length w.bytes ≤ o)
  pub byte : slice_index new o ≡ slice_index old o

-- these were written over the bytes of a file
pub record AreWritten (ws : List Written) (old new : List ℕ) : Type 0 where
  pub length : length new ≡ length old
  pub each : (o : ℕ) → ComesOf ws new o ⊎ IsAsBefore ws old new o
