-- The faults that the code hands on, which have numbers and keys in place of names, and what they stand for. `number`
-- says which place in the project the object of a key has (this project's own).
use Rattle.std.specs.Prelude.{ℕ, List, [], codes, Option, slice_get, unwrap_or}
use Rattle.std.specs.Option.{option_map_or, option_and_then}
use Rattle.elfobj.specs.Sections.{LinkedSection}
use Rattle.elfobj.specs.Symbols.{NamedSymbol}
use Rattle.elfobj.specs.declared.relocation.Relocation.{Relocation}
use Rattle.elfobj.specs.declared.relocation.RelocationKind.{RelocationKind}
use Rattle.elfobj.specs.declared.relocation.RelocationKind.TheVariants as kind
use Rattle.elfobj.specs.declared.section.SectionIndex.{SectionIndex}
use Rattle.ldscript.specs.statements.Numbering.{OutputSectionAt, AssertionAt, output_sections, asserts, regions}
use Rattle.ldscript.specs.statements.declared.statement.Region.{Region}
use Rattle.ldmodel.specs.Fault.{Fault}
use Rattle.ldmodel.specs.Fault as fault
use Rattle.ldmodel.specs.Image.{section_numbered}
use Rattle.ldmodel.specs.Mentioned.{mentioned_names}
use Rattle.ldmodel.specs.Live.{symbol_at}
use Rattle.ldmodel.specs.NameFaults.{Definer, ByScript, ByObject, object_name}
use Rattle.ldmodel.specs.Names.{entry_symbol}
use Rattle.ldmodel.specs.Project.{NamedObject, Project}
use Rattle.ldmodel.specs.declared.fault.Definer as code_definer
use Rattle.ldmodel.specs.declared.fault.Definer.TheVariants as definer
use Rattle.ldmodel.specs.declared.fault.Fault as code
use Rattle.ldmodel.specs.declared.fault.Fault.TheVariants as variant
use Rattle.ldmodel.specs.declared.fault.SiteRef.{SiteRef}
use Rattle.ldmodel.specs.declared.sections.Part.{Part}
use Rattle.ldmodel.specs.declared.sections.Part.TheVariants.{InTable, InCommon}

abbrev pub name_of_symbol : Project → ℕ → ℕ → List ℕ
name_of_symbol project object symbol =
    option_map_or (λ (symbol : NamedSymbol). symbol.name) (symbol_at project object symbol) []

abbrev pub section_at : Project → ℕ → SectionIndex → Option LinkedSection
section_at project object k =
    option_and_then (λ (object : NamedObject). section_numbered object k) (slice_get project.objects object)

abbrev pub name_of_section : Project → ℕ → SectionIndex → List ℕ
name_of_section project object k =
    option_map_or (λ (section : LinkedSection). section.name) (section_at project object k) []

-- a common block counts as a section of this name
abbrev pub name_of_part : Project → ℕ → Part → List ℕ
name_of_part project object (InTable k) = name_of_section project object k
name_of_part project object (InCommon x) = codes "COMMON"

abbrev pub definer_of : Project → (number : ℕ → ℕ) → code_definer.Definer → Definer
definer_of project number definer.Script = ByScript
definer_of project number (definer.Object key) = ByObject (object_name project (number key.0))

abbrev pub name_of_output : Project → ℕ → List ℕ
name_of_output project k =
    option_map_or (λ (x : OutputSectionAt). x.section.name) (slice_get (output_sections project.script) k) []

abbrev pub name_of_region : Project → ℕ → List ℕ
name_of_region project k = option_map_or (λ (r : Region). r.name) (slice_get (regions project.script) k) []

-- where a site stands: the place of its object in the project, its section, and the number of its relocation
pub record SitePlace : Type 0 where
  pub object : ℕ
  pub section : SectionIndex
  pub entry : ℕ

abbrev pub place_of : (number : ℕ → ℕ) → SiteRef → SitePlace
place_of number t = record { object = number t.object.0; section = t.section; entry = t.entry }

abbrev pub relocation_at : Project → SitePlace → Option Relocation
relocation_at project t =
    option_and_then (λ (section : LinkedSection). slice_get section.relocations t.entry)
    (section_at project t.object t.section)

abbrev pub offset_of : Project → SitePlace → ℕ
offset_of project t = option_map_or (λ (x : Relocation). x.offset) (relocation_at project t) 0

abbrev pub symbol_of : Project → SitePlace → ℕ
symbol_of project t = option_map_or (λ (x : Relocation). x.symbol.0) (relocation_at project t) 0

abbrev pub kind_of : Project → SitePlace → RelocationKind
kind_of project t = option_map_or (λ (x : Relocation). x.kind) (relocation_at project t) kind.None

-- a fault about a site, by the names of its object and section and its offset there
abbrev pub at_site : Project → SitePlace → (List ℕ → List ℕ → ℕ → Fault) → Fault
at_site project t fault =
    fault (object_name project t.object) (name_of_section project t.object t.section) (offset_of project t)

abbrev pub undefined_at : Project → SitePlace → Fault
undefined_at project t =
    let name : List ℕ = name_of_symbol project t.object (symbol_of project t) in
    at_site project t (λ object section offset. fault.UndefinedSymbol object section offset name)

abbrev pub missing_at : Project → SitePlace → Fault
missing_at project t =
    at_site project t (λ object section offset. fault.TargetNotInOutput object section offset (symbol_of project t))

abbrev pub overflow_at : Project → SitePlace → ℕ → Fault
overflow_at project t value =
    at_site project t (λ object section offset. fault.FieldOverflow object section offset (kind_of project t) value)

abbrev pub assertion_of : Option AssertionAt → Fault
assertion_of a =
    fault.AssertionFailed (option_map_or (λ (x : AssertionAt). x.line) a 0)
    (option_map_or (λ (x : AssertionAt). x.assertion.message) a [])

unfoldable pub fault_of : Project → (number : ℕ → ℕ) → code.Fault → Fault
fault_of project number (variant.DuplicateDefinition e first) =
    let object : ℕ = number e.object.0 in
    fault.DuplicateDefinition (name_of_symbol project object e.symbol.0) (object_name project object)
    (definer_of project number first)
fault_of project number variant.UndefinedEntry = fault.UndefinedEntry (unwrap_or (entry_symbol project) [])
fault_of project number (variant.Orphan x) =
    let object : ℕ = number x.object.0 in
    fault.Orphan (object_name project object) (name_of_part project object x.part)
fault_of project number (variant.NotReady line name) =
    fault.NotReady line (unwrap_or (slice_get (mentioned_names project.script) name.0) [])
fault_of project number (variant.NoValue line) = fault.NoValue line
fault_of project number (variant.MovedBack line) = fault.MovedBack line
fault_of project number (variant.RegionFull x r) =
    fault.RegionFull (name_of_output project x.0) (name_of_region project r.0)
fault_of project number (variant.PastAddressSpace line) = fault.PastAddressSpace line
fault_of project number (variant.AddressesOverlap x y) =
    fault.AddressesOverlap (name_of_output project x.0) (name_of_output project y.0)
fault_of project number (variant.LoadAddressesOverlap x y) =
    fault.LoadAddressesOverlap (name_of_output project x.0) (name_of_output project y.0)
fault_of project number (variant.ImageTooLong length) = fault.ImageTooLong length
fault_of project number (variant.UndefinedSymbol t) = undefined_at project (place_of number t)
fault_of project number (variant.TargetNotInOutput t) = missing_at project (place_of number t)
fault_of project number variant.EntryNotInOutput = fault.EntryNotInOutput
fault_of project number (variant.FieldOverflow t value) = overflow_at project (place_of number t) value
fault_of project number (variant.AssertionFailed a) = assertion_of (slice_get (asserts project.script) a.0)
