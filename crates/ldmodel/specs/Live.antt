-- Which input sections the program needs (GNU ld manual, "Command-line Options", `--gc-sections`; "Input Section and
-- Garbage Collection"). Without garbage collection all that are not left out. With it, the section of the entry symbol,
-- those that a statement under KEEP takes, and each one that a relocation of a needed one refers to. This project's
-- choice: no section is needed for its type alone (notes and arrays of functions need KEEP).
use Rattle.std.specs.Prelude.{ℕ, List, filter, Option, Some, None, Bool, false, ◌||◌, if◌then◌else◌, slice_get}
use Rattle.std.specs.Prelude.{option_and_then, is_none}
use Rattle.std.specs.List.{list_any}
use Rattle.std.specs.Option.{option_map_or}
use Rattle.elfobj.specs.Symbols.{NamedSymbol}
use Rattle.elfobj.specs.declared.relocation.Relocation.{Relocation}
use Rattle.elfobj.specs.declared.symbol.SymbolPlace.{SymbolPlace}
use Rattle.elfobj.specs.declared.symbol.SymbolPlace.TheVariants as place
use Rattle.ldscript.specs.statements.Numbering.{InputStatementAt}
use Rattle.ldmodel.specs.Gathering.{taken_by, candidates}
use Rattle.ldmodel.specs.Names.{Entry, Decision, Strong, Common, Weak, decision, entry_symbol, is_local}
use Rattle.ldmodel.specs.Project.{NamedObject, Project}
use Rattle.ldmodel.specs.Reach.{reached}
use Rattle.ldmodel.specs.Sections.{InputSection, SectionId, is_same}
use Rattle.ldmodel.specs.declared.sections.Part.TheVariants.{InTable, InCommon}

-- a symbol of object number i, by its number
abbrev pub symbol_at : Project → ℕ → ℕ → Option NamedSymbol
symbol_at project i index =
    option_and_then (λ (object : NamedObject). slice_get object.object.symbols index) (slice_get project.objects i)

-- the section that a symbol of object number i is defined in
abbrev pub section_of_place : ℕ → SymbolPlace → Option SectionId
section_of_place i (place.Section index) = Some (record { object = i; part = InTable index })
section_of_place i _ = None

abbrev pub section_of_entry : Project → Entry → Option SectionId
section_of_entry project entry =
    option_and_then (λ (symbol : NamedSymbol). section_of_place entry.object symbol.symbol.place)
    (symbol_at project entry.object entry.symbol)

-- the section that a name is defined in; a number, as the script's, is in none
abbrev pub section_of_decision : Project → Decision → Option SectionId
section_of_decision project (Strong entry) = section_of_entry project entry
section_of_decision project (Weak entry) = section_of_entry project entry
section_of_decision project (Common owner size alignment) =
    Some (record { object = owner.object; part = InCommon (record { 0 = owner.symbol }) })
section_of_decision project _ = None

-- the section that a symbol of object number i refers to: a local one its own, another that of its name, also where
-- the object itself defines that
abbrev pub section_of_symbol : Project → ℕ → NamedSymbol → Option SectionId
section_of_symbol project i symbol =
    if is_local symbol.symbol.binding then section_of_place i symbol.symbol.place
    else section_of_decision project (decision project symbol.name)

-- the section of the target of a relocation of object number i, whatever the relocation does
unfoldable pub target_section : Project → ℕ → Relocation → Option SectionId
target_section project i relocation =
    option_and_then (section_of_symbol project i) (symbol_at project i relocation.symbol.0)

-- the section of the entry symbol
unfoldable pub entry_section : Project → Option SectionId
entry_section project =
    option_and_then (λ name. section_of_decision project (decision project name)) (entry_symbol project)

abbrev pub is_section : Option SectionId → InputSection → Bool
is_section id section = option_map_or (is_same section.id) id false

abbrev pub is_kept : Option InputStatementAt → Bool
is_kept statement = option_map_or (λ (taking : InputStatementAt). taking.input.keep) statement false

-- where garbage collection starts
abbrev pub is_root : Project → InputSection → Bool
is_root project section = is_section (entry_section project) section || is_kept (taken_by project section)

-- a relocation of one has its target in the other
abbrev pub refers_to : Project → InputSection → InputSection → Bool
refers_to project from to =
    list_any (λ relocation. is_section (target_section project from.id.object relocation) to) from.relocations

-- the live sections, in their order; on the way to one stands none that is left out
unfoldable pub live : Project → List InputSection
live project = if project.options.gc then reached (is_root project) (refers_to project) (candidates project)
    else candidates project

-- the live sections that no statement takes: a fault each
unfoldable pub orphans : Project → List InputSection
orphans project = filter (λ section. is_none (taken_by project section)) (live project)
