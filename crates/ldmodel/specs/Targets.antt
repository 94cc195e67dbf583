-- What a relocation names (gABI, "Relocation", and "Symbol Table": a local symbol is seen in its own object alone; a
-- symbol that isn't local stands for what its name stands for in the whole link, also where its own object defines it;
-- an undefined weak one has the value 0).
use Rattle.std.specs.Prelude.{ℕ, List, Bool, if◌then◌else◌}
use Rattle.std.specs.Option.{option_map_or}
use Rattle.elfobj.specs.Symbols.{NamedSymbol}
use Rattle.elfobj.specs.declared.section.SectionIndex.{SectionIndex}
use Rattle.elfobj.specs.declared.symbol.SymbolPlace.{SymbolPlace}
use Rattle.elfobj.specs.declared.symbol.SymbolPlace.TheVariants as place
use Rattle.ldmodel.specs.Layout.{Layout, PlacedPiece}
use Rattle.ldmodel.specs.Names.{is_local, is_weak_binding}
use Rattle.ldmodel.specs.Project.{NamedObject, Project}
use Rattle.ldmodel.specs.SymbolValues.{SymbolValue, NotDefined, name_value, own_value, number_or_0, placed_part}
use Rattle.ldmodel.specs.SymbolValues as symbol
use Rattle.ldmodel.specs.declared.sections.Part.TheVariants.{InTable}

-- 0 for an undefined name that a symbol names weakly
abbrev pub or_weak : Bool → SymbolValue → SymbolValue
or_weak weak NotDefined = if weak then symbol.Number 0 else NotDefined
or_weak weak value = value

-- S: the value of a symbol that a relocation of an object names
unfoldable pub referenced_value : Project → Layout → NamedObject → NamedSymbol → SymbolValue
referenced_value project layout object symbol =
    if is_local symbol.symbol.binding then own_value layout object.name symbol.symbol.place symbol.symbol.value
    else or_weak (is_weak_binding symbol.symbol.binding) (name_value project layout symbol.name)

-- what the value of a symbol turns on in the link: a name; where a section of an object starts; or nothing
pub data Target : Type 0 where
  Name : (name : List ℕ) → Target
  Section : (object : List ℕ) → (section : SectionIndex) → Target
  Fixed : Target

abbrev pub local_target : List ℕ → SymbolPlace → Target
local_target object (place.Section index) = Section object index
local_target object _ = Fixed

abbrev pub target_of : NamedObject → NamedSymbol → Target
target_of object symbol =
    if is_local symbol.symbol.binding then local_target object.name symbol.symbol.place else Name symbol.name

-- the number of a target: the value of a name, where an undefined one counts as 0, or the address of a section
unfoldable pub target_number : Project → Layout → Target → ℕ
target_number project layout (Name name) = number_or_0 (name_value project layout name)
target_number project layout (Section object k) =
    option_map_or (λ (placed : PlacedPiece). placed.start) (placed_part layout object (InTable k)) 0
target_number project layout Fixed = 0
