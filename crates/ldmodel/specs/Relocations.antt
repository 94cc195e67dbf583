-- Relocations of the link (gABI, "Relocation"; x86-64 psABI, "Relocation Types"): each site, its field or its fault.
use Rattle.std.specs.Prelude.{ℕ, ◌+◌, List, [], ◌++◌, ◌∷◌, map, filter, flat_map, Option, Some, None, Result, Ok, Err}
use Rattle.std.specs.Prelude.{Bool, true, false, slice_get}
use Rattle.std.specs.List.{filter_map}
use Rattle.std.specs.Option.{option_map_or}
use Rattle.std.specs.Result.{result_err}
use Rattle.elfobj.specs.Sections.{LinkedSection}
use Rattle.elfobj.specs.Symbols.{NamedSymbol}
use Rattle.elfobj.specs.declared.relocation.Relocation.{Relocation}
use Rattle.elfobj.specs.declared.relocation.RelocationKind.{RelocationKind}
use Rattle.elfobj.specs.declared.relocation.RelocationKind.TheVariants as kind
use Rattle.emit_fields.specs.Fields.{field_of}
use Rattle.emit_fields.specs.declared.field.Overflow.{Overflow}
use Rattle.emit_fields.specs.declared.patch.Patch.{Patch}
use Rattle.ldmodel.specs.Fault.{Fault, UndefinedSymbol, TargetNotInOutput, EntryNotInOutput, FieldOverflow}
use Rattle.ldmodel.specs.Layout.{Layout, PlacedPiece}
use Rattle.ldmodel.specs.Project.{NamedObject, Project}
use Rattle.ldmodel.specs.SymbolValues.{SymbolValue, Number, NotDefined, NotInOutput, placed_part, entry_point}
use Rattle.ldmodel.specs.Targets.{referenced_value}
use Rattle.ldmodel.specs.declared.sections.Part.TheVariants.{InTable}

-- a relocation of an input section in the output: its object, its section, where that starts, and the entry
pub record Site : Type 0 where
  pub object : NamedObject
  pub section : LinkedSection
  pub start : ℕ
  pub relocation : Relocation

-- NONE is not evaluated
abbrev pub is_evaluated : RelocationKind → Bool
is_evaluated kind.None = false
is_evaluated _ = true

-- the sites of a section that starts at an address, in the order of its table
abbrev pub sites_at : NamedObject → LinkedSection → ℕ → List Site
sites_at object section start =
    map (λ relocation. record { object = object; section = section; start = start; relocation = relocation })
    (filter (λ (relocation : Relocation). is_evaluated relocation.kind) section.relocations)

-- those of a section, none where it is not in the output
abbrev pub sites_of_section : Layout → NamedObject → LinkedSection → List Site
sites_of_section layout object section =
    option_map_or (λ (placed : PlacedPiece). sites_at object section placed.start)
    (placed_part layout object.name (InTable section.number)) []

-- all sites by their place: object by object, section by section, in the order of the tables
unfoldable pub sites : Project → Layout → List Site
sites project layout = flat_map (λ (object : NamedObject). flat_map
    (sites_of_section layout object) object.object.sections) project.objects

-- the symbol that a site names
abbrev pub site_symbol : Site → Option NamedSymbol
site_symbol site = slice_get site.object.object.symbols site.relocation.symbol.0

-- S
abbrev pub site_value : Project → Layout → Site → SymbolValue
site_value project layout site =
    option_map_or (referenced_value project layout site.object) (site_symbol site) NotDefined

-- P: the address of the field
abbrev pub site_place : Site → ℕ
site_place site = site.start + site.relocation.offset

abbrev pub site_name : Site → List ℕ
site_name site = option_map_or (λ (symbol : NamedSymbol). symbol.name) (site_symbol site) []

-- a field, or the fault of a value out of range
abbrev pub field_or_overflow : Site → Result (List ℕ) Overflow → Result (List ℕ) Fault
field_or_overflow site (Ok field) = Ok field
field_or_overflow site (Err e) =
    Err (FieldOverflow site.object.name site.section.name site.relocation.offset site.relocation.kind e.value)

abbrev pub site_field_with : Site → SymbolValue → Result (List ℕ) Fault
site_field_with site (Number x) = field_or_overflow site (field_of site.relocation x (site_place site))
site_field_with site NotDefined =
    Err (UndefinedSymbol site.object.name site.section.name site.relocation.offset (site_name site))
site_field_with site NotInOutput =
    Err (TargetNotInOutput site.object.name site.section.name site.relocation.offset site.relocation.symbol.0)

-- the bytes of a site's field, or its fault
unfoldable pub site_field : Project → Layout → Site → Result (List ℕ) Fault
site_field project layout site = site_field_with site (site_value project layout site)

abbrev pub entry_fault : SymbolValue → List Fault
entry_fault NotInOutput = EntryNotInOutput ∷ []
entry_fault _ = []

-- the faults of relocation: first that of the entry symbol, then those of the sites in their order
unfoldable pub relocation_faults : Project → Layout → List Fault
relocation_faults project layout = entry_fault (entry_point project layout)
    ++ filter_map (λ site. result_err (site_field project layout site)) (sites project layout)

-- a field in its place in its section
abbrev pub patch_of : Site → Result (List ℕ) Fault → Option Patch
patch_of site (Ok field) = Some (record { offset = site.relocation.offset; field = field })
patch_of site (Err fault) = None

-- the fields of a section that starts at an address
abbrev pub fields_of : Project → Layout → NamedObject → LinkedSection → ℕ → List Patch
fields_of project layout object section start =
    filter_map (λ site. patch_of site (site_field project layout site)) (sites_at object section start)
