-- The symbols of the output: the names that stand for something in it, in byte order. They are listed in the map, and
-- those with a value in the symbol table of the image (this project's own).
use Rattle.std.specs.Prelude.{ℕ, List, map, codes, Bool, true, false, filter}
use Rattle.std.specs.Cmp.Lexicographic.{slice_cmp}
use Rattle.std.specs.Ordering.{is_lt, nat_cmp}
use Rattle.ldmodel.specs.Layout.{Layout}
use Rattle.ldmodel.specs.NameFaults.{object_name}
use Rattle.ldmodel.specs.Names.{Decision, Strong, Common, Weak, Undefined, Duplicate, decision, declared_names}
use Rattle.ldmodel.specs.Project.{Project}
use Rattle.ldmodel.specs.Sorting.{sort_by}
use Rattle.ldmodel.specs.SymbolValues.{SymbolValue, name_value}

-- a name, what it stands for, and its value
pub record OutputSymbol : Type 0 where
  pub name : List ℕ
  pub decision : Decision
  pub value : SymbolValue

-- byte order: by the first byte that differs, and a beginning before what goes on
abbrev pub is_before : List ℕ → List ℕ → Bool
is_before a b = is_lt (slice_cmp nat_cmp a b)

abbrev pub in_byte_order : List (List ℕ) → List (List ℕ)
in_byte_order names = sort_by is_before names

-- a name stands for something
abbrev pub is_defined : Decision → Bool
is_defined Undefined = false
is_defined Duplicate = false
is_defined _ = true

abbrev pub output_symbol : Project → Layout → List ℕ → OutputSymbol
output_symbol project layout name =
    record { name = name; decision = decision project name; value = name_value project layout name }

unfoldable pub output_symbols : Project → Layout → List OutputSymbol
output_symbols project layout =
    filter (λ (symbol : OutputSymbol). is_defined symbol.decision)
    (map (output_symbol project layout) (in_byte_order (declared_names project)))

-- the object that a name's definition stands in, or `script`
abbrev pub owner : Project → Decision → List ℕ
owner project (Strong entry) = object_name project entry.object
owner project (Weak entry) = object_name project entry.object
owner project (Common entry size alignment) = object_name project entry.object
owner project _ = codes "script"
