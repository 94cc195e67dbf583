-- What a layout gives: where the parts of the program stand in memory (GNU ld manual, "SECTIONS Command" and "MEMORY
-- Command"). Addresses and sizes are whole numbers, and an address of 2^64 or more is a fault: that is this project's
-- own.
use Rattle.std.specs.Prelude.{ℕ, ◌+◌, List, [], ◌∷◌, ◌++◌, find, Option, Result, Ok, Err, Bool, bytes_eq, if◌then◌else◌}
use Rattle.std.specs.Option.{option_map}
use Rattle.ldscript.specs.terms.Expressions.{Expr}
use Rattle.ldmodel.specs.Arithmetic.{is_address}
use Rattle.ldmodel.specs.Fault.{Fault}
use Rattle.ldmodel.specs.Fault as fault
use Rattle.ldmodel.specs.Rows.{Piece}
use Rattle.ldmodel.specs.Value.{Scope, SectionNumbers, RegionNumbers, ValueFault, NotReady, NoValue, value}

-- a symbol that the script gives a value
pub record ScriptSymbol : Type 0 where
  pub name : List ℕ
  pub value : ℕ

-- a region of MEMORY: where it begins, how many bytes it has, and its next free address
pub record MemoryRegion : Type 0 where
  pub name : List ℕ
  pub origin : ℕ
  pub extent : ℕ
  pub next : ℕ

-- an input section in its place
pub record PlacedPiece : Type 0 where
  pub start : ℕ
  pub piece : Piece

-- the bytes of a BYTE, SHORT, LONG or QUAD in their place
pub record PlacedData : Type 0 where
  pub start : ℕ
  pub bytes : List ℕ

-- an output section in its place: its addresses in memory are those from `start` on. Where it has file bytes, they are
-- loaded from `load` on, and `load_size` is its size; else that is 0. `region` is that of `>region`
pub record PlacedOutput : Type 0 where
  pub name : List ℕ
  pub region : Option (List ℕ)
  pub alignment : ℕ
  pub start : ℕ
  pub size : ℕ
  pub load : ℕ
  pub has_file_bytes : Bool
  pub load_size : ℕ
  pub writable : Bool
  pub executable : Bool
  pub fill : Option (List ℕ)
  pub pieces : List PlacedPiece
  pub data_commands : List PlacedData

-- a layout, as far as it has come: the location counter; its value before each statement of SECTIONS and, right after
-- an output section's own, before each statement of its body; the number of the next input statement; and what is
-- complete so far. Statements outside SECTIONS and the input statements of `/DISCARD/` have no `.` in `dots`: the
-- former cannot name `.`, the latter have no expressions, and none of them moves it
pub record Layout : Type 0 where
  pub dot : ℕ
  pub dots : List ℕ
  pub inputs : ℕ
  pub symbols : List ScriptSymbol
  pub regions : List MemoryRegion
  pub sections : List PlacedOutput

-- nothing is placed yet, and `.` is 0
abbrev pub nothing_placed : Layout
nothing_placed = record { dot = 0; dots = []; inputs = 0; symbols = []; regions = []; sections = [] }

abbrev pub section_named : List PlacedOutput → List ℕ → Option PlacedOutput
section_named sections name = find (λ (output : PlacedOutput). bytes_eq output.name name) sections

abbrev pub region_named : List MemoryRegion → List ℕ → Option MemoryRegion
region_named regions name = find (λ (region : MemoryRegion). bytes_eq region.name name) regions

abbrev pub symbol_named : List ScriptSymbol → List ℕ → Option ScriptSymbol
symbol_named symbols name = find (λ (symbol : ScriptSymbol). bytes_eq symbol.name name) symbols

-- the value that the script gives a symbol
abbrev pub script_value : Layout → List ℕ → Option ℕ
script_value layout name = option_map (λ (symbol : ScriptSymbol). symbol.value) (symbol_named layout.symbols name)

abbrev pub section_numbers : Layout → List ℕ → Option SectionNumbers
section_numbers layout name =
    option_map (λ (output : PlacedOutput). record { start = output.start; load = output.load; size = output.size })
    (section_named layout.sections name)

abbrev pub region_numbers : Layout → List ℕ → Option RegionNumbers
region_numbers layout name =
    option_map (λ (region : MemoryRegion). record { origin = region.origin; extent = region.extent })
    (region_named layout.regions name)

-- an expression of the layout may name what is complete where it stands
abbrev pub scope_of : Layout → Scope
scope_of layout =
    record { symbol = script_value layout; section = section_numbers layout; region = region_numbers layout }

-- a fault of an expression, with its line
abbrev pub fault_at : ℕ → ValueFault → Fault
fault_at line (NotReady name) = fault.NotReady line name
fault_at line NoValue = fault.NoValue line

abbrev pub value_at : ℕ → Result ℕ ValueFault → Result ℕ Fault
value_at line (Ok x) = Ok x
value_at line (Err f) = Err (fault_at line f)

-- the number of an expression on a line
unfoldable pub number : Layout → ℕ → Expr → Result ℕ Fault
number layout line e = value_at line (value (scope_of layout) layout.dot e)

-- a whole number that is to be an address, or an end
abbrev pub address : ℕ → ℕ → Result ℕ Fault
address line x = if is_address x then Ok x else Err (fault.PastAddressSpace line)

-- `.` before a statement is kept
abbrev pub noted : Layout → Layout
noted layout = record layout { dots = layout.dots ++ layout.dot ∷ [] }

-- a symbol is given a value
abbrev pub with_symbol : Layout → List ℕ → ℕ → Layout
with_symbol layout name x = record layout { symbols = layout.symbols ++ record { name = name; value = x } ∷ [] }
