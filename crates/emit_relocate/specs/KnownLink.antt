-- What a linker knows of its link: a project and a layout, and what the keys of objects and of names stand for.
use Rattle.std.specs.Prelude.{◌≡◌, ℕ, List, Option, Some, slice_get, false, unwrap_or}
use Rattle.std.specs.Option.{option_map}
use Rattle.elfobj.specs.Symbols.{NamedSymbol}
use Rattle.elfobj.specs.declared.relocation.SymbolIndex.{SymbolIndex}
use Rattle.ldmodel.specs.CodeValues.{decision_of}
use Rattle.ldmodel.specs.Layout.{Layout, PlacedPiece, script_value}
use Rattle.ldmodel.specs.Live.{symbol_at}
use Rattle.ldmodel.specs.NameFaults.{object_name}
use Rattle.ldmodel.specs.Names.{decision, is_local}
use Rattle.ldmodel.specs.Project.{NamedObject, Project}
use Rattle.ldmodel.specs.SymbolValues.{placed_part, name_value}
use Rattle.ldmodel.specs.declared.names.Case.{Case}
use Rattle.ldmodel.specs.declared.names.NameKey.{NameKey}
use Rattle.ldmodel.specs.declared.names.ObjectPlace.{ObjectPlace}
use Rattle.ldmodel.specs.declared.sections.SectionRef.{SectionRef}
use Rattle.emit_relocate.specs.Values.{value_of}
use Rattle.ldmodel.specs.Targets.{Target, Name, Section, Fixed}
use Rattle.ldmodel.specs.declared.target.Target as code_target
use Rattle.ldmodel.specs.declared.target.Target.TheVariants as of
use Rattle.elfobj.specs.declared.symbol.Symbol.{Symbol}
use Rattle.emit_relocate.specs.declared.value.SymbolValue as code
use Rattle.emit_relocate.specs.declared.value.SymbolValue.TheVariants as value

-- `number` says which place in the project the object of a key has, and `name` which name a key stands for
pub record KnownLink : Type 0 where
  pub project : Project
  pub layout : Layout
  pub number : ℕ → ℕ
  pub name : ℕ → Option (List ℕ)

abbrev pub named_object : KnownLink → ObjectPlace → Option NamedObject
named_object link k = slice_get link.project.objects (link.number k.0)

abbrev pub name_of_object : KnownLink → ObjectPlace → List ℕ
name_of_object link k = object_name link.project (link.number k.0)

-- where an input section starts, if it is in the output
abbrev pub start_of : KnownLink → SectionRef → Option ℕ
start_of link k =
    option_map (λ (placed : PlacedPiece). placed.start) (placed_part link.layout (name_of_object link k.object) k.part)

-- a key is that of the name of a symbol, unless the symbol is local
abbrev pub IsNameOf : KnownLink → ObjectPlace → SymbolIndex → NameKey → Type 0
IsNameOf link object symbol k =
    (x : NamedSymbol) → symbol_at link.project (link.number object.0) symbol.0 ≡ Some x → is_local x.symbol.binding
    ≡ false
    → link.name k.0 ≡ Some x.name

abbrev pub IsCaseOf : KnownLink → NameKey → Option (Case ObjectPlace) → Type 0
IsCaseOf link k case =
    (name : List ℕ) → link.name k.0 ≡ Some name → option_map (decision_of link.number) case
    ≡ Some (decision link.project name)

abbrev pub IsScriptValueOf : KnownLink → NameKey → Option ℕ → Type 0
IsScriptValueOf link k value = (name : List ℕ) → link.name k.0 ≡ Some name → value ≡ script_value link.layout name

-- each name has its value under its key
abbrev pub AreNameValues : KnownLink → List code.SymbolValue → Type 0
AreNameValues link values =
    (k : ℕ) (name : List ℕ) → link.name k ≡ Some name
    → option_map value_of (slice_get values k) ≡ Some (name_value link.project link.layout name)

-- the value under the key of a name
abbrev pub value_under : List code.SymbolValue → NameKey → code.SymbolValue
value_under values k = unwrap_or (slice_get values k.0) value.NotDefined

-- a symbol of the object of a key, by its number
pub record IsSymbolOf (link : KnownLink) (object : ObjectPlace) (index : SymbolIndex) (symbol : Symbol)
    (o : NamedObject)
    (x : NamedSymbol) : Type 0 where
  pub object_is : named_object link object ≡ Some o
  pub entry_is : slice_get o.object.symbols index.0 ≡ Some x
  pub symbol_is : x.symbol ≡ symbol

-- what a target of the code stands for
abbrev pub named_target : KnownLink → code_target.Target → Option Target
named_target link (of.Name k) = option_map Name (link.name k.0)
named_target link (of.Section object section) = Some (Section (name_of_object link object) section)
named_target link of.Fixed = Some Fixed
