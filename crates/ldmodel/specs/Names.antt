-- What a name stands for, by all that declare it (gABI, "Symbol Table"; GNU ld manual, "Assigning Values to Symbols",
-- "PROVIDE"). Of several definitions a global one goes before the script's assignment, that before a common one, that
-- before a weak one, and that before the script's PROVIDE, which needs an undefined entry. Two strong definitions of a
-- name are a fault; that the script's assignment counts as one is this project's choice (GNU ld lets the script win).
use Rattle.std.specs.Prelude.{ℕ, ◌+◌, List, [], ◌∷◌, ◌++◌, length, map, filter, flat_map, Option, Bool, true, false}
use Rattle.std.specs.Prelude.{not, ◌&&◌, nat_lt, max, if◌then◌else◌, bytes_eq}
use Rattle.std.specs.List.{list_any, enumerate_from}
use Rattle.std.specs.Option.{option_or}
use Rattle.elfobj.specs.Symbols.{NamedSymbol}
use Rattle.elfobj.specs.declared.symbol.Binding.{Binding}
use Rattle.elfobj.specs.declared.symbol.Binding.TheVariants.{Local, Global}
use Rattle.elfobj.specs.declared.symbol.Binding.TheVariants as binding
use Rattle.elfobj.specs.declared.symbol.Symbol.{Symbol}
use Rattle.elfobj.specs.declared.symbol.SymbolPlace.{SymbolPlace}
use Rattle.elfobj.specs.declared.symbol.SymbolPlace.TheVariants as place
use Rattle.ldmodel.specs.Project.{NamedObject, Project}
use Rattle.ldscript.specs.statements.Numbering.{entry_of}
use Rattle.ldmodel.specs.ScriptNames.{assigned_names, provided_names, is_assigned, is_provided}

-- an entry of an object's symbol table: the place of the object in the project, from 0, and the number of the symbol
pub record Entry : Type 0 where
  pub object : ℕ
  pub symbol : ℕ

-- a global definition that isn't common; the script's assignment; a common block, with the entry that owns it, the
-- greatest size and the greatest alignment; the first weak definition; the script's PROVIDE; nothing; two or more
-- strong definitions, the script's assignment counted
pub data Decision : Type 0 where
  Strong : (entry : Entry) → Decision
  Script : Decision
  Common : (owner : Entry) → (size alignment : ℕ) → Decision
  Weak : (entry : Entry) → Decision
  Provided : Decision
  Undefined : Decision
  Duplicate : Decision

-- a symbol that isn't local, and where its entry stands
pub record Declaration : Type 0 where
  pub entry : Entry
  pub name : List ℕ
  pub symbol : Symbol

abbrev pub is_local : Binding → Bool
is_local Local = true
is_local _ = false

abbrev pub declaration : ℕ → ℕ × NamedSymbol → Declaration
declaration object numbered = record {
  entry = record { object = object; symbol = numbered.0 };
  name = numbered.1.name;
  symbol = numbered.1.symbol;
}

-- the entries of a symbol table, that of the object of a number
abbrev pub all_entries : ℕ × List NamedSymbol → List Declaration
all_entries table = map (declaration table.0) (enumerate_from 0 table.1)

-- those that aren't local, in the order of the table
abbrev pub declarations_in : ℕ × List NamedSymbol → List Declaration
declarations_in table =
    filter (λ (declaration : Declaration). not (is_local declaration.symbol.binding)) (all_entries table)

-- those of all tables, in the order of the tables
unfoldable pub declarations_of : List (ℕ × List NamedSymbol) → List Declaration
declarations_of tables = flat_map declarations_in tables

abbrev pub symbol_tables : List NamedObject → List (List NamedSymbol)
symbol_tables objects = map (λ (object : NamedObject). object.object.symbols) objects

-- all declarations, in object order and then symbol order
abbrev pub declarations : List NamedObject → List Declaration
declarations objects = declarations_of (enumerate_from 0 (symbol_tables objects))

abbrev pub is_of_name : List ℕ → Declaration → Bool
is_of_name name declaration = bytes_eq name declaration.name

-- the declarations of a name
abbrev pub entries : List NamedObject → List ℕ → List Declaration
entries objects name = filter (is_of_name name) (declarations objects)

-- defined in a section or as a number
abbrev pub is_placed : SymbolPlace → Bool
is_placed place.Absolute = true
is_placed (place.Section index) = true
is_placed place.Undefined = false
is_placed place.Common = false

abbrev pub is_global : Binding → Bool
is_global Global = true
is_global _ = false

abbrev pub is_weak_binding : Binding → Bool
is_weak_binding binding.Weak = true
is_weak_binding _ = false

abbrev pub is_common_place : SymbolPlace → Bool
is_common_place place.Common = true
is_common_place _ = false

abbrev pub is_undefined_place : SymbolPlace → Bool
is_undefined_place place.Undefined = true
is_undefined_place _ = false

-- a global definition that isn't common
abbrev pub is_strong : Declaration → Bool
is_strong declaration = is_global declaration.symbol.binding && is_placed declaration.symbol.place

abbrev pub is_weak : Declaration → Bool
is_weak declaration = is_weak_binding declaration.symbol.binding && is_placed declaration.symbol.place

abbrev pub is_common : Declaration → Bool
is_common declaration = is_common_place declaration.symbol.place

abbrev pub is_undefined : Declaration → Bool
is_undefined declaration = is_undefined_place declaration.symbol.place

abbrev pub greatest : (Declaration → ℕ) → List Declaration → ℕ
greatest of [] = 0
greatest of (first ∷ rest) = max (of first) (greatest of rest)

-- for a common symbol st_value is its alignment
abbrev pub common_size : Declaration → ℕ
common_size declaration = declaration.symbol.size

abbrev pub common_alignment : Declaration → ℕ
common_alignment declaration = declaration.symbol.value

-- a case for the entry of the first of these, or else another
abbrev pub for_first : List Declaration → (Entry → Decision) → Decision → Decision
for_first [] here otherwise = otherwise
for_first (first ∷ rest) here otherwise = here first.entry

-- the first case that holds, where the script assigns the name, or provides it, and these declare it: 1 two or more
-- strong definitions, the assignment counted; 2 a strong one; 3 the assignment; 4 common ones; 5 weak ones; 6 a PROVIDE
-- and an undefined entry; 7 nothing
unfoldable pub decided : (by_script by_provide : Bool) → List Declaration → Decision
decided by_script by_provide declarations =
    let commons : List Declaration = filter is_common declarations in
    if nat_lt 1 (length (filter is_strong declarations) + (if by_script then 1 else 0)) then Duplicate else
    for_first (filter is_strong declarations) Strong (
    if by_script then Script else
    for_first commons (λ owner. Common owner (greatest common_size commons) (greatest common_alignment commons)) (
    for_first (filter is_weak declarations) Weak (
    if by_provide && list_any is_undefined declarations then Provided else
    Undefined)))

-- what a name stands for
unfoldable pub decision : Project → List ℕ → Decision
decision project name =
    decided (is_assigned project.script name) (is_provided project.script name) (entries project.objects name)

abbrev pub is_provided_case : Decision → Bool
is_provided_case Provided = true
is_provided_case _ = false

-- the names of the script's PROVIDEs that are in force, in the order of the text
unfoldable pub provided : Project → List (List ℕ)
provided project = filter (λ name. is_provided_case (decision project name)) (provided_names project.script)

-- the entry symbol (GNU ld manual, "Setting the Entry Point"): that of the option, else that of ENTRY; without one the
-- entry point is 0
unfoldable pub entry_symbol : Project → Option (List ℕ)
entry_symbol project = option_or project.options.entry (entry_of project.script)

-- a list without what stands in it a second time
abbrev pub distinct : List (List ℕ) → List (List ℕ)
distinct [] = []
distinct (x ∷ xs) = x ∷ filter (λ y. not (bytes_eq x y)) (distinct xs)

abbrev pub names_in_objects : List NamedObject → List (List ℕ)
names_in_objects objects = map (λ (declaration : Declaration). declaration.name) (declarations objects)

-- the names that objects declare or that the script assigns or provides, each once
unfoldable pub declared_names : Project → List (List ℕ)
declared_names project =
    distinct (names_in_objects project.objects ++ assigned_names project.script ++ provided_names project.script)
