-- Relocations of input sections in the output, as the code hands them on.
use Rattle.std.specs.Prelude.{◌≡◌, ◌+◌, ℕ, List, map, Some, Result, Ok, Err, length, slice_get, true, find, ◌==◌}
use Rattle.elfobj.specs.Object.{ObjectData}
use Rattle.elfobj.specs.RelocationKinds.{width}
use Rattle.elfobj.specs.Sections.{LinkedSection}
use Rattle.elfobj.specs.Symbols.{NamedSymbol}
use Rattle.elfobj.specs.declared.relocation.Relocation.{Relocation}
use Rattle.emit_fields.specs.declared.patch.Patch.{Patch}
use Rattle.ldmodel.specs.FaultCode.{fault_of}
use Rattle.ldmodel.specs.Image.{section_numbered}
use Rattle.ldmodel.specs.Project.{NamedObject}
use Rattle.ldmodel.specs.Relocations.{Site, site_field_with, is_evaluated, site_field}
use Rattle.ldmodel.specs.SymbolValues.{SymbolValue}
use Rattle.ldmodel.specs.declared.fault.Fault as code
use Rattle.ldmodel.specs.declared.fault.Fault.TheVariants as variant
use Rattle.ldmodel.specs.declared.names.ObjectPlace.{ObjectPlace}
use Rattle.emit_relocate.specs.KnownLink.{KnownLink, named_object}
use Rattle.emit_relocate.specs.SymbolValues.{IsRow}
use Rattle.emit_relocate.specs.declared.site.NoField.{NoField}
use Rattle.emit_relocate.specs.declared.site.NoField.TheVariants.{Overflow, TargetNotInOutput, UndefinedSymbol}
use Rattle.emit_relocate.specs.declared.site.PlacedInput.{PlacedInput}

-- a section of an object, as the code has it at hand
pub record IsPlaced (link : KnownLink) (m : PlacedInput) (object : NamedObject) (section : LinkedSection) : Type 0 where
  pub object_is : named_object link m.object ≡ Some object
  pub section_is : section_numbered object m.section ≡ Some section
  pub symbols_are : m.symbols.now ≡ map (λ (y : NamedSymbol). y.symbol) object.object.symbols
  pub values_are : IsRow link object m.values.now
  pub relocations_are : m.relocations.now ≡ section.relocations

-- the same by what was read of the object
pub record IsSectionOf (o : ObjectData) (section : LinkedSection) (place : ObjectPlace) (m : PlacedInput) : Type 0 where
  pub place_is : m.object ≡ place
  pub number_is : find (λ (y : LinkedSection). y.number.0 == m.section.0) o.sections ≡ Some section
  pub symbols_are : m.symbols.now ≡ map (λ (y : NamedSymbol). y.symbol) o.symbols
  pub relocations_are : m.relocations.now ≡ section.relocations

-- these are entries of its table of relocations, from a number on
abbrev pub AreEntriesFrom : PlacedInput → ℕ → List Relocation → Type 0
AreEntriesFrom m first rs =
    (k : ℕ) (relocation : Relocation) → slice_get rs k ≡ Some relocation → slice_get m.relocations.now (first + k)
    ≡ Some relocation

-- a site of it
pub record IsSite (link : KnownLink) (m : PlacedInput) (site : Site) : Type 0 where
  pub placed : IsPlaced link m site.object site.section
  pub start_is : site.start ≡ m.start

-- that of an entry of its table
pub record IsSiteAt (link : KnownLink) (m : PlacedInput) (entry : ℕ) (t : Site) : Type 0 where
  pub site : IsSite link m t
  pub entry_is : slice_get m.relocations.now entry ≡ Some t.relocation

-- what a site comes to: its field in its place, or its fault
abbrev pub IsOutcome : KnownLink → Site → SymbolValue → Result Patch code.Fault → Type 0
IsOutcome link site v (Ok x) = (site_field_with site v ≡ Ok x.field) × (x.offset ≡ site.relocation.offset)
IsOutcome link site v (Err f) = site_field_with site v ≡ Err (fault_of link.project link.number f)

abbrev pub IsEvaluated : KnownLink → Site → Result Patch code.Fault → Type 0
IsEvaluated link site (Ok x) =
    (site_field link.project link.layout site ≡ Ok x.field) × (x.offset ≡ site.relocation.offset)
IsEvaluated link site (Err f) = site_field link.project link.layout site ≡ Err (fault_of link.project link.number f)

-- the fault of the relocation of a number that has no field
abbrev pub fault_with : PlacedInput → ℕ → NoField → code.Fault
fault_with m entry UndefinedSymbol =
    variant.UndefinedSymbol (record { object = m.object; section = m.section; entry = entry })
fault_with m entry TargetNotInOutput =
    variant.TargetNotInOutput (record { object = m.object; section = m.section; entry = entry })
fault_with m entry (Overflow value) =
    variant.FieldOverflow (record { object = m.object; section = m.section; entry = entry }) value

-- its field, or its fault
abbrev pub with_fault : PlacedInput → ℕ → Result Patch NoField → Result Patch code.Fault
with_fault m entry (Ok x) = Ok x
with_fault m entry (Err reason) = Err (fault_with m entry reason)

-- a field of a relocation, in its place
pub record IsFieldOf (relocation : Relocation) (x : Patch) : Type 0 where
  pub kept : is_evaluated relocation.kind ≡ true
  pub offset_is : x.offset ≡ relocation.offset
  pub width_is : length x.field ≡ width relocation.kind
