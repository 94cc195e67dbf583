-- What names are in the output: their values, and what the symbol table says of them beside names, bindings and values.
use Rattle.std.specs.Prelude.{◌≡◌, ◌<◌, ℕ, List, Some, slice_get}
use Rattle.std.specs.Option.{option_map}
use Rattle.elfobj.specs.file.declared.constants.TheConstants.{SHN_ABS, STT_NOTYPE, STT_OBJECT}
use Rattle.elfobj.specs.declared.symbol.Symbol.{Symbol}
use Rattle.ldmodel.specs.CodeValues.{decision_of}
use Rattle.ldmodel.specs.Layout.{Layout}
use Rattle.ldmodel.specs.NameFaults.{object_name}
use Rattle.ldmodel.specs.Names.{Decision, Entry, decision}
use Rattle.ldmodel.specs.Project.{Project}
use Rattle.ldmodel.specs.SymbolValues.{SymbolValue, address_in, decided_value, entry_value, name_value, own_value}
use Rattle.ldmodel.specs.SymbolValues.{placed_part, symbol_index}
use Rattle.ldmodel.specs.Tail.{entry_header, entry_size, entry_type, header_of_part, header_of_place, kind_number}
use Rattle.ldmodel.specs.Tail.{st_shndx, st_size, st_type_of}
use Rattle.ldmodel.specs.declared.names.Case.{Case}
use Rattle.ldmodel.specs.declared.names.ObjectPlace.{ObjectPlace}
use Rattle.ldmodel.specs.declared.sections.Part.{Part}
use Rattle.ldmodel.specs.declared.sections.Part.TheVariants.{InCommon}
use Rattle.emit_relocate.specs.KnownLink.{KnownLink}
use Rattle.emit_relocate.specs.Values.{value_of}
use Rattle.emit_relocate.specs.declared.value.SymbolValue as code_value
use Rattle.emit_text.specs.Definer.{definer_of}
use Rattle.emit_text.specs.declared.definer.Definer.{Definer}
use Rattle.emit_relocate.specs.declared.name_row.NameRow as code
use Rattle.emit_relocate.specs.declared.name_row.Standing.{Standing}
use Rattle.emit_relocate.specs.declared.name_row.SymbolFacts.{SymbolFacts}
use Rattle.emit_relocate.specs.declared.symbol_row.SymbolRow as code_rows
use Rattle.emit_relocate.specs.SymbolRows.{definer_in, facts_in, value_in}

-- st_type, st_shndx and st_size of a symbol of the output
pub record Facts : Type 0 where
  pub type : ℕ
  pub section : ℕ
  pub size : ℕ

abbrev pub shown_facts : SymbolFacts → Facts
shown_facts f = record { type = kind_number f.kind; section = f.section; size = f.size }

-- those of what a name stands for
abbrev pub facts : Project → Layout → Decision → Facts
facts project layout d =
    record { type = st_type_of project d; section = st_shndx project layout d; size = st_size project d }

-- the value of a name, and what the symbol table says of it
pub record NameRow : Type 0 where
  pub value : SymbolValue
  pub facts : Facts

abbrev pub shown_row : code.NameRow → NameRow
shown_row x = record { value = value_of x.value; facts = shown_facts x.facts }

-- the same, of a row
abbrev pub shown_in : code_rows.SymbolRow → NameRow
shown_in x = record { value = value_of (value_in x); facts = shown_facts (facts_in x) }

-- where no object defines it
abbrev pub bare_row : SymbolValue → NameRow
bare_row v = record { value = v; facts = record { type = STT_NOTYPE; section = SHN_ABS; size = 0 } }

-- where an entry defines it
abbrev pub entry_row : Project → Layout → Entry → NameRow
entry_row project layout e = record {
  value = entry_value project layout e;
  facts = record { type = entry_type project e; section = entry_header project layout e; size = entry_size project e };
}

-- where it stands for a common block
abbrev pub block_row : Project → Layout → Entry → ℕ → NameRow
block_row project layout owner size = record {
  value = address_in (placed_part layout (object_name project owner.object) (InCommon (symbol_index owner))) 0;
  facts = record {
    type = STT_OBJECT;
    section = header_of_part layout (object_name project owner.object) (InCommon (symbol_index owner));
    size = size;
  };
}

-- by what it stands for
abbrev pub decided_row : Project → Layout → List ℕ → Decision → NameRow
decided_row project layout name d =
    record { value = decided_value project layout name d; facts = facts project layout d }

-- of a name of a project
abbrev pub row_of : Project → Layout → List ℕ → NameRow
row_of project layout name =
    record { value = name_value project layout name; facts = facts project layout (decision project name) }

-- where an offset in a part of an object stands
pub record IsPlaceIn (layout : Layout) (object : List ℕ) (part : Part) (offset : ℕ) (x : Standing) : Type 0 where
  pub value : value_of x.value ≡ address_in (placed_part layout object part) offset
  pub section : x.section ≡ header_of_part layout object part

-- where a symbol of an object stands
pub record IsPlaceOf (layout : Layout) (object : List ℕ) (symbol : Symbol) (x : Standing) : Type 0 where
  pub value : value_of x.value ≡ own_value layout object symbol.place symbol.value
  pub section : x.section ≡ header_of_place layout object symbol.place

-- what defines a name, and what it is
pub record Resolved : Type 0 where
  pub definer : Definer
  pub row : NameRow

abbrev pub shown_resolved : code_rows.SymbolRow → Resolved
shown_resolved x = record { definer = definer_in x; row = shown_in x }

-- a name of a project
abbrev pub resolved : Project → Layout → List ℕ → Resolved
resolved project layout name =
    record { definer = definer_of (decision project name); row = row_of project layout name }

-- what the name of a key stands for
abbrev pub IsCaseUnder : KnownLink → ℕ → Case ObjectPlace → Type 0
IsCaseUnder link k x =
    (name : List ℕ) → link.name k ≡ Some name → decision_of link.number x ≡ decision link.project name

-- the row of the name of a key
abbrev pub IsRowUnder : KnownLink → ℕ → code_rows.SymbolRow → Type 0
IsRowUnder link k x =
    (name : List ℕ) → link.name k ≡ Some name → shown_in x ≡ row_of link.project link.layout name

-- each name has what defines it, and what it is, under its key
abbrev pub AreResolved : KnownLink → List code_rows.SymbolRow → Type 0
AreResolved link rows =
    (k : ℕ) (name : List ℕ) → link.name k ≡ Some name
    → option_map shown_resolved (slice_get rows k) ≡ Some (resolved link.project link.layout name)

-- the same of the names with keys below a number
abbrev pub AreResolvedBelow : KnownLink → ℕ → List code_rows.SymbolRow → Type 0
AreResolvedBelow link n rows =
    (k : ℕ) (name : List ℕ) → k < n → link.name k ≡ Some name
    → option_map shown_resolved (slice_get rows k) ≡ Some (resolved link.project link.layout name)

-- the values of the names with keys below a number, under their keys
abbrev pub AreValuesBelow : KnownLink → ℕ → List code_value.SymbolValue → Type 0
AreValuesBelow link n values =
    (k : ℕ) (name : List ℕ) → k < n → link.name k ≡ Some name
    → option_map value_of (slice_get values k) ≡ Some (name_value link.project link.layout name)
